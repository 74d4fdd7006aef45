use Rattle.std.proofs.Common.{refl}
use Rattle.rj_columns.proofs.RemoveFacts.{map-removed}
use Rattle.rj_columns.proofs.column.Column.remove.Goals as goal
use Rattle.rj_columns.proofs.column.Column.remove.Goals.{in-Ints, in-Nums, in-Texts}

pub returns : goal.returns
returns c = elim c.match-self.branch [
  | in-Ints w ↦ let e = w.self-inside-is in let s = w.in-Ints.is in let t = w.remove.ensures in rw (e, t, ← c.self.view_is, s, map-removed) refl
  | in-Nums w ↦ let e = w.self-inside-is in let s = w.in-Nums.is in let t = w.remove-in-Nums.ensures in rw (e, t, ← c.self.view_is, s, map-removed) refl
  | in-Texts w ↦ let e = w.self-inside-is in let s = w.in-Texts.is in let t = w.remove-in-Texts.ensures in rw (e, t, ← c.self.view_is, s, map-removed) refl
]
