use Rattle.std.proofs.Common.{◌≡◌, ◌∙◌, ℕ, ◌+◌, ◌-◌, ◌<◌, Bool, false, List, [], ◌++◌, Option, length, drop, get_or, refl, ap, sym, append_assoc, arith}
use Rattle.std.specs.Option.{option_to_list}
use Rattle.std.proofs.lemmas.List.{append-nil, at_drop_all, at_drop_more, length-drop, take_all}
use Rattle.rj_line.specs.Listed.{in_list, list_from, quoted_behind}
use Rattle.rj_line.proofs.suggest.listed.list_in.Goals as goal

-- one byte on
list-step : (quoted : Bool) (bytes : List ℕ) (i : ℕ) → i < length bytes
    → list_from quoted (drop i bytes) ≡ option_to_list (in_list quoted (get_or bytes i 0) (drop (i + 1) bytes)) ++ list_from (quoted_behind quoted (get_or bytes i 0)) (drop (i + 1) bytes)
unfolding list_from
list-step quoted bytes i inside = at_drop_more (list_from quoted) bytes i 0 inside

list-end : (quoted : Bool) → list_from quoted [] ≡ []
unfolding list_from
list-end quoted = refl

list-pushed : (quoted after : Bool) (bytes list new rest whole : List ℕ) (i byte : ℕ) (shown : Option ℕ) → i < length bytes → byte ≡ get_or bytes i 0 → rest ≡ drop (i + 1) bytes
    → shown ≡ in_list quoted byte rest → after ≡ quoted_behind quoted byte → new ≡ list ++ option_to_list shown → list ++ list_from quoted (drop i bytes) ≡ whole
    → new ++ list_from after (drop (i + 1) bytes) ≡ whole
list-pushed quoted after bytes list new rest whole i byte shown inside read left stands behind is before =
    let more = list_from after (drop (i + 1) bytes) in
    let step : list_from quoted (drop i bytes) ≡ option_to_list shown ++ more = rw (stands, behind, left, read) (list-step quoted bytes i inside) in
    ap (λ (l : List ℕ). l ++ more) is ∙ (append_assoc list (option_to_list shown) more ∙ (ap (λ (l : List ℕ). list ++ l) (sym step) ∙ before))

pub loop-i-preserved : goal.loop-i-preserved
loop-i-preserved c =
    let bytes = c.args.bytes.now in
    let i = c.loop-i.i in
    record {
      so_far = list-pushed c.loop-i.quoted c.quoted_behind-quoted.result bytes c.loop-i.list.items c.push_some.new.list.items _ (list_from false bytes) i
          (get_or bytes i 0) c.in_list.result (omega (arith, c.loop-i-test.true, c.loop-i.invariant.end)) refl
          (take_all (length bytes - (i + 1)) (drop (i + 1) bytes) (omega (arith, length-drop (i + 1) bytes))) c.in_list.ensures c.quoted_behind-quoted.ensures
          c.in_ok-push_some.ensures c.loop-i.invariant.so_far;
      end = refl;
    }

pub returns : goal.returns
returns c =
    let list = c.loop-i.list.items in
    let bytes = c.args.bytes.now in
    sym (append-nil list)
    ∙ (ap (λ (l : List ℕ). list ++ l) (sym (at_drop_all (list_from c.loop-i.quoted) bytes c.loop-i.i (omega (arith, c.loop-i-test.false, c.loop-i.invariant.end)) ∙ list-end c.loop-i.quoted))
    ∙ c.loop-i.invariant.so_far)
