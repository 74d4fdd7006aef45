use Rattle.std.proofs.Common.{refl}
use Rattle.std.proofs.lemmas.List.{take-map}
use Rattle.rj_columns.proofs.column.Column.truncate.Goals as goal
use Rattle.rj_columns.proofs.column.Column.truncate.Goals.{in-Ints, in-Nums, in-Texts}

pub returns : goal.returns
returns c = elim c.match-self.branch [
  | in-Ints w ↦ let e = w.self-inside-is in let s = w.in-Ints.is in let t = w.truncate.ensures in rw (e, t, ← c.self.view_is, s, take-map) refl
  | in-Nums w ↦ let e = w.self-inside-is in let s = w.in-Nums.is in let t = w.truncate-in-Nums.ensures in rw (e, t, ← c.self.view_is, s, take-map) refl
  | in-Texts w ↦ let e = w.self-inside-is in let s = w.in-Texts.is in let t = w.truncate-in-Texts.ensures in rw (e, t, ← c.self.view_is, s, take-map) refl
]
