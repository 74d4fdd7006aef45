use Rattle.std.proofs.Common.{◌∙◌, ap, sym, ◌++◌, ◌∷◌, []}
use Rattle.std.specs.Prelude.{string_bytes, slice_index}
use Rattle.rj_condition.specs.Tokens.{begins}
use Rattle.rj_condition.proofs.Quotes.{cut, cut_quote, quote_there, quoted_open, quoted_last, quoted_two, none_left, some_left, low_quote, is_quote}
use Rattle.rj_condition.proofs.lexer.quoted.Goals as goal

pub as_bytes-requires-text-self : goal.as_bytes-requires-text-self
as_bytes-requires-text-self c κs = c.loop-found.invariant.text

pub split_at-requires : goal.split_at-requires
split_at-requires c = cut_quote c.args.quote c.as_bytes.result.now c.loop-found.rest.now c.plain_len.result c.requires c.as_bytes.ensures.value c.plain_len.ensures

pub returns-then-is_empty : goal.returns-then-is_empty
returns-then-is_empty c =
    let k = cut c.args.quote c.loop-found.rest.now c.as_bytes.result.now c.split_at.result.0.now c.split_at.result.1.now c.plain_len.result c.as_bytes.ensures.value c.plain_len.ensures c.split_at.ensures.front c.split_at.ensures.back in
    sym (quoted_open c.args.quote (string_bytes c.loop-found.found) c.loop-found.rest.now c.split_at.result.0.now c.split_at.result.1.now k (none_left c.split_at.result.1.now c.if-is_empty.ensures))
    ∙ c.loop-found.invariant.state

pub tail-after-requires-clause-ascii : goal.tail-after-requires-clause-ascii
tail-after-requires-clause-ascii c =
    let k = cut c.args.quote c.loop-found.rest.now c.as_bytes.result.now c.split_at.result.0.now c.split_at.result.1.now c.plain_len.result c.as_bytes.ensures.value c.plain_len.ensures c.split_at.ensures.front c.split_at.ensures.back in
    low_quote c.args.quote (slice_index c.split_at.result.1.now 0) c.requires
    (quote_there c.args.quote c.loop-found.rest.now c.split_at.result.0.now c.split_at.result.1.now k (some_left c.split_at.result.1.now c.if-is_empty.ensures))

pub returns-then-not-begins_with : goal.returns-then-not-begins_with
returns-then-not-begins_with c =
    let k = cut c.args.quote c.loop-found.rest.now c.as_bytes.result.now c.split_at.result.0.now c.split_at.result.1.now c.plain_len.result c.as_bytes.ensures.value c.plain_len.ensures c.split_at.ensures.front c.split_at.ensures.back in
    let there = quote_there c.args.quote c.loop-found.rest.now c.split_at.result.0.now c.split_at.result.1.now k (some_left c.split_at.result.1.now c.if-is_empty.ensures) in
    let text = c.from_string.ensures ∙ c.in_ok-push_str.ensures.bytes in
    rw text (sym
    (quoted_last c.args.quote (slice_index c.split_at.result.1.now 0)
    (string_bytes c.loop-found.found) c.loop-found.rest.now c.split_at.result.0.now c.split_at.result.1.now c.tail-after.result.now k c.tail-after.ensures there
    (sym (c.if-not-begins_with.ensures ∙ ap (begins (is_quote c.args.quote)) c.as_bytes-in-loop-found.ensures.value))) ∙ c.loop-found.invariant.state)

pub loop-found-preserved : goal.loop-found-preserved
loop-found-preserved c = record {
  text = c.tail-rest.utf8;
  state =
      let k = cut c.args.quote c.loop-found.rest.now c.as_bytes.result.now c.split_at.result.0.now c.split_at.result.1.now c.plain_len.result c.as_bytes.ensures.value c.plain_len.ensures c.split_at.ensures.front c.split_at.ensures.back in
      let there = quote_there c.args.quote c.loop-found.rest.now c.split_at.result.0.now c.split_at.result.1.now k (some_left c.split_at.result.1.now c.if-is_empty.ensures) in
      let text = c.in_ok-push.ensures.bytes ∙ ap (λ z. string_bytes c.push_str.new.self ++ z) (c.in_ok-push.ensures.ascii c.requires)
      ∙ ap (λ z. z ++ c.args.quote ∷ []) c.in_ok-push_str.ensures.bytes in
      rw text (sym
      (quoted_two c.args.quote (slice_index c.split_at.result.1.now 0) (slice_index c.tail-after.result.now 0)
      (string_bytes c.loop-found.found) c.loop-found.rest.now c.split_at.result.0.now c.split_at.result.1.now c.tail-after.result.now c.tail-rest.result.now k
      c.tail-after.ensures there c.tail-rest.ensures (sym (c.if-not-begins_with.ensures ∙ ap (begins (is_quote c.args.quote)) c.as_bytes-in-loop-found.ensures.value))) ∙ c.loop-found.invariant.state);
}
