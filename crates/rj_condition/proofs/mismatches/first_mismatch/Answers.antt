use Rattle.rj_condition.proofs.RefusalFacts.{begin_each}
use Rattle.rj_condition.proofs.mismatches.first_mismatch.Goals as goal

pub told_apart-requires : goal.told_apart-requires
told_apart-requires c =
    rw (c.as_slice-tokens.ensures, c.as_slice-starts.ensures.value)
    (begin_each c.args.text.now c.args.text.now c.in_ok-lexed.lexed.tokens c.in_ok-lexed.lexed.starts.items c.in_ok-lexed.ensures.starts)

pub returns-in-Some : goal.returns-in-Some
returns-in-Some c = (
  c.as_slice-tokens.result.now,
  c.as_slice-starts.result.now,
  rw (c.as_slice-tokens.ensures, c.as_slice-starts.ensures.value) c.in_ok-lexed.ensures.starts,
  rw c.in-Some.is at c.in_ok-found.ensures,
)

pub returns : goal.returns
returns c = (
  c.as_slice-tokens.result.now,
  c.as_slice-starts.result.now,
  rw (c.as_slice-tokens.ensures, c.as_slice-starts.ensures.value) c.in_ok-lexed.ensures.starts,
  rw c.in-None.is at c.in_ok-found.ensures,
)
