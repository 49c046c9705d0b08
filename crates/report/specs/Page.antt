-- A page: lent bytes, and the place that the text in them has come to.
use Rattle.std.specs.Prelude.{ℕ, ◌≡◌, ◌+◌, ◌≤◌, List, length}
use Rattle.lent.specs.Room.{Wrote}
use Rattle.report.specs.declared.page.Page.{Page}

-- there is room for n bytes more
abbrev pub HasRoom : ℕ → Page → Type 0
HasRoom n p = p.at + n ≤ length p.out.now

-- a text is put on a page, from its place on
pub record Put (text : List ℕ) (before after : Page) : Type 0 where
  pub wrote : Wrote text before.out.now before.at after.at after.out.now
  pub kept : length after.out.now ≡ length before.out.now
  pub same : after.out.ghost_name ≡ before.out.ghost_name
