use Rattle.std.proofs.Common.{◌≡◌, length, map}
use Rattle.std.specs.Prelude.{string_bytes}
use Rattle.rj_engine.specs.Naming.{renamed}
use Rattle.rj_engine.proofs.NamingFacts.{renamed_behind}
use Rattle.rj_engine.proofs.naming.renamed.Given as goal

abbrev pub invariant-loop-column : goal.invariant-loop-column
invariant-loop-column l = record {
  many : length l.written.items ≡ l.column;
  left : renamed l.fn.repeated (map (λ n. n.now) l.header) ≡ renamed_behind l.fn.repeated (map (λ n. n.now) l.header) (map string_bytes l.written.items) l.column;
  end : l.column-end ≡ length l.header;
}
