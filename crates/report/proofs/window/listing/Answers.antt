use mathlib.Core.Bool.{true}
use lib.ListN.{length}
use mathlib.Core.Path.{◌≡◌, sym, ◌∙◌}
use Prim.Native.Nat.{◌/◌}
use Rattle.std.proofs.Common.{rules}
use Rattle.std.specs.Prelude.{Err}
use Rattle.omap.specs.Window.{window_pieces}
use Rattle.omap.specs.Output.{told_windowed}
use Rattle.omap.specs.Refusals.{window_number}
use Rattle.report.specs.Text.{refused_text}
use Rattle.report.specs.Window.{table_text}
use Rattle.report.proofs.Pages.{put_both}
use Rattle.report.proofs.Windows.{zeros, enough, text-is, pieces-text, refused-window}
use Rattle.report.proofs.window.listing.Goals as goal

pub returns-in_err-n : goal.returns-in_err-n
returns-in_err-n c =
    let a = c.args in
    let s = a.table.now in
    let why = c.in_err-n.field-0.0 in
    let text : table_text a.a a.b s ≡ refused_text (window_number why)
    = sym (text-is s a.a a.b (length zeros / 2) (enough s c.requires.small) (told_windowed (Err why)) c.in_err-n.ensures.answer)
    ∙ refused-window why (window_pieces true s a.a a.b) in
    search rules

pub returns : goal.returns
returns c =
    let a = c.args in
    let text = pieces-text a.table.now a.a a.b zeros c.window.new.out c.in_ok-n.n (enough a.table.now c.requires.small)
    c.in_ok-n.ensures.answer c.in_ok-n.ensures.output in
    rw (← text) (put_both c.pair_lines.ensures c.numbered.ensures)
