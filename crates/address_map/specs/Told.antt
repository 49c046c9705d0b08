-- What a conversion answers, in the paper's terms: the plain address, or the section and the offset.
use Rattle.std.specs.Prelude.{ℕ, Result, Ok, Err, Option as Maybe, Some, None}
use Rattle.lent.specs.Paper.{Told, value, nothing, refused, sum_number}
use Rattle.lent.specs.declared.refusal.SumRefusal.{SumRefusal}
use Rattle.address_map.specs.Sections.{Offset, in_section}
use Rattle.address_map.specs.declared.Rva.{Rva}
use Rattle.address_map.specs.declared.PdbInternalRva.{PdbInternalRva}
use Rattle.address_map.specs.declared.SectionOffset.{SectionOffset}
use Rattle.address_map.specs.declared.PdbInternalSectionOffset.{PdbInternalSectionOffset}

-- an answer, with what each value stands for
abbrev pub told_as : {A B : Type 0} → (A → B) → Result (Maybe A) SumRefusal → Told B
told_as plain (Ok (Some x)) = value (plain x)
told_as plain (Ok None) = nothing
told_as plain (Err why) = refused (sum_number why)

abbrev pub rva_of : Rva → ℕ
rva_of x = x.0

abbrev pub internal_rva_of : PdbInternalRva → ℕ
internal_rva_of x = x.0

abbrev pub offset_of : SectionOffset → Offset
offset_of x = in_section x.section x.offset

abbrev pub internal_offset_of : PdbInternalSectionOffset → Offset
internal_offset_of x = in_section x.section x.offset
