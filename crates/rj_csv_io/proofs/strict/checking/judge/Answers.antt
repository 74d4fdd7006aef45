use Rattle.std.proofs.Common.{ℕ, subst, sym, true, ◌≡◌}
use Rattle.rj_csv_io.specs.Grammar.{may_delimit}
use Rattle.rj_csv_io.proofs.strict.checking.judge.Goals as goal

pub returns-then-is_clean : goal.returns-then-is_clean
returns-then-is_clean c = record {
  told = sym (c.is_clean.ensures c.if-is_clean.true c.args.header);
  lawful = subst (λ (d : ℕ). may_delimit d ≡ true) c.byte-byte.ensures.value c.byte-byte.ensures.lawful;
}
