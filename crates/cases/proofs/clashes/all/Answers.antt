use Rattle.std.proofs.Common.{refl, sym, ap, arith}
use Rattle.omap.proofs.Cases.{table_t}
use Rattle.clash.proofs.Answers.{clash-given, back-given}
use Rattle.gillacorn.specs.Clashes.{pair_answer, sources_answer}
use Rattle.cases.proofs.Opened.{clashes}
use Rattle.cases.proofs.clashes.all.Goals as goal

-- By the pieces of the window: an answer is stated over each of its addresses.
pub clashes-requires : goal.clashes-requires
unfolding clashes
clashes-requires c = ap pair_answer (sym (clash-given table_t 0x800 0x1400 refl refl (omega arith)))

pub clashes-requires-2 : goal.clashes-requires-2
unfolding clashes
clashes-requires-2 c = ap pair_answer (sym (clash-given table_t 0x1000 0x1300 refl refl (omega arith)))

pub goes_back-requires : goal.goes_back-requires
unfolding clashes
goes_back-requires c = ap sources_answer (sym (back-given table_t 0x800 0x1400 refl refl (omega arith) 0x50A0))

pub goes_back-requires-2 : goal.goes_back-requires-2
unfolding clashes
goes_back-requires-2 c = ap sources_answer (sym (back-given table_t 0x800 0x1400 refl refl (omega arith) 0x5100))
