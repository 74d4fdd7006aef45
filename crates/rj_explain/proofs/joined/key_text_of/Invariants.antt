use Rattle.std.proofs.Common.{◌≡◌, take}
use Rattle.std.specs.Prelude.{string_bytes}
use Rattle.rj_csv_io.specs.Pieces.{names_in}
use Rattle.rj_explain.specs.Lines.{key_text}
use Rattle.rj_explain.proofs.joined.key_text_of.Given as goal

abbrev pub invariant-loop-column : goal.invariant-loop-column
invariant-loop-column l = string_bytes l.text ≡ key_text (names_in l.found.header.fields) (names_in l.found.row.fields) (take l.column-index l.columns)
