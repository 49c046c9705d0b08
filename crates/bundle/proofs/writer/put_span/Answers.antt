use Rattle.lent.proofs.Wrote.{wrote-both}
use Rattle.bundle.proofs.Lent.{fields-or}
use Rattle.bundle.proofs.writer.put_span.Goals as goal

pub returns-clause-wrote : goal.returns-clause-wrote
returns-clause-wrote c =
    let both = wrote-both c.put_u32-next.ensures.wrote c.put_u32.ensures.wrote in
    rw (c.unwrap_or-span.ensures, fields-or c.args.span) at both
