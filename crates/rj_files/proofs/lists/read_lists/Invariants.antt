use Rattle.std.proofs.Common.{◌≡◌, ◌++◌, length, map}
use Rattle.std.specs.Prelude.{None, string_bytes}
use Rattle.std.specs.Vec.Iter.{into_iter_items, into_iter_len}
use Rattle.rj_files.specs.Labels.{AreReadWords}
use Rattle.rj_files.proofs.ListFacts.{last_label}
use Rattle.rj_files.proofs.lists.read_lists.Given as goal

abbrev pub invariant-loop-word : goal.invariant-loop-word
invariant-loop-word g l = record {
  read : AreReadWords None (map string_bytes l.yielded) (map string_bytes l.read.items);
  label : l.label ≡ last_label None (map string_bytes l.yielded);
  rest : l.yielded ++ into_iter_items l.word-iterator ≡ l.fn.words.items;
  len : into_iter_len l.word-iterator ≡ length (into_iter_items l.word-iterator);
}
