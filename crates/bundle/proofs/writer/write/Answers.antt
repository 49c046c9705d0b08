use native.Mathlib.Omega.{arith}
use Rattle.bundle.specs.Writing.{parts_of}
use Rattle.bundle.proofs.Writings.{write-all}
use Rattle.bundle.proofs.writer.write.Goals as goal

pub returns : goal.returns
returns c =
    let a = c.args in
    write-all (parts_of a.parts) a.out.now c.put_parts-end.ensures c.put_trailer.ensures (omega arith) (omega arith)
