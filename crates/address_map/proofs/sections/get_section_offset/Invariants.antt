use mathlib.Core.Path.{◌≡◌}
use Rattle.address_map.specs.Sections.{section_spec, walk}
use Rattle.address_map.proofs.Walks.{rest}
use Rattle.address_map.proofs.sections.get_section_offset.Given as goal

abbrev pub invariant-loop-place : goal.invariant-loop-place
invariant-loop-place l =
    section_spec l.by l.sections l.address ≡ walk l.by l.address l.place (rest l.sections l.place)
