-- What the answers of each topic's cases are computed by: to unfold one of these names is to unfold all on its line.
-- `#[tactic(auto, unfolding(..))]` at a function of the topic names it.
-- Assumes nothing.
use Rattle.lent.specs.Words.{or_else, put}
use Rattle.lent.specs.Le.{le_at, le_bytes}
use Rattle.lent.specs.Table.{listed, shape_fault}
use Rattle.lent.specs.Order.{rising_after, rising, table_fault, last_at}
use Rattle.lent.specs.Room.{room_for}
use Rattle.lent.specs.Search.{probed, halved, binary_search}
use Rattle.omap.specs.Records.{records, moved, single}
use Rattle.omap.specs.Lookup.{lookup_spec}
use Rattle.omap.specs.Quick.{quick_spec}
use Rattle.omap.specs.Window.{next_of, piece_of, pieces}
use Rattle.omap.specs.Output.{beside_start, fits, all_fit, sum_fault, window_fault, flat, window_spec, window_out}
use Rattle.clash.specs.Clash.{paired_or, least_two}
use Rattle.clash.specs.Shared.{source_in, sources_in, first_shared, clash_of}
use Rattle.pe.specs.Header.{header_at}
use Rattle.pe.specs.Extent.{extent}
use Rattle.address_map.specs.Sections.{walk, section_spec, address_spec}
use Rattle.framedata.specs.Attributes.{attributes}
use Rattle.framedata.specs.Frame.{from_old, from_new, old_frame_spec}
use Rattle.framedata.specs.Step.{lesser, step_spec}
use Rattle.framedata.specs.Start.{place_spec, start_spec}
use Rattle.bundle.specs.Layout.{joined, spans_from, fields, all_fields, bundle_of}
use Rattle.bundle.specs.Reading.{span_of, touching, same, read_spec}
use Rattle.bundle.specs.Writing.{write_spec, write_out}

-- a table's fields, its length and its order
unfoldable pub tables : Type 0
unfolding le_at listed shape_fault rising_after rising table_fault last_at
tables = Unit {0}

unfoldable pub lookups : Type 0
unfolding tables records moved single or_else lookup_spec probed halved binary_search quick_spec
lookups = Unit {0}

unfoldable pub windows : Type 0
unfolding tables records next_of piece_of put pieces beside_start fits all_fit sum_fault window_fault flat room_for window_spec window_out
windows = Unit {0}

unfoldable pub clashes : Type 0
unfolding windows or_else paired_or least_two source_in sources_in first_shared clash_of
clashes = Unit {0}

unfoldable pub addresses : Type 0
unfolding tables header_at extent walk section_spec address_spec
addresses = Unit {0}

unfoldable pub frames : Type 0
unfolding tables attributes from_old from_new old_frame_spec lesser step_spec or_else place_spec start_spec
frames = Unit {0}

unfoldable pub bundles : Type 0
unfolding le_at le_bytes room_for joined spans_from fields all_fields bundle_of span_of touching same read_spec write_spec write_out
bundles = Unit {0}
