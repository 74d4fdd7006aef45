-- What a chain of options keeps.
use Rattle.std.proofs.Common.{◌≡◌, ◌∙◌, ◌&&◌, ◌<◌, ◌≤◌, ◌++◌, ◌+◌, ◌∷◌, [], ℕ, Bool, List, Option, Some, None, zero, suc, true, false, inl, inr}
use Rattle.std.proofs.Common.{not, refl, sym, ap, ap₂, subst, arith, map, take, length, is_some, codes, true≢false}
use Rattle.std.specs.Str.{bytes_eq}
use Rattle.std.specs.List.{All, list_all, list_any, slice_index_or}
use Rattle.std.proofs.lemmas.Slice.Eq.{bytes_eq-Decides}
use Rattle.std.proofs.lemmas.Bool.{or_parts}
use Rattle.std.proofs.lemmas.List.{map-append, length-map}
use Rattle.clap.specs.Facts.{unwrap_or_range}
use Rattle.clap.specs.Matches.{first_value, found_of}
use Rattle.clap.specs.Built.{AddsArg, AddsInTurn, FitsChain, HasDistinctIds, IsParsedFrom, TakesValue}
use Rattle.clap.specs.Simple.{app_of}
use Rattle.clap.specs.Walk.{Rule, Text, is_empty, is_simple_arg, rule_of}
use Rattle.clap.specs.Simple.{new_rule}
use Rattle.clap.specs.declared.builder.ArgAction.{ArgAction}
use Rattle.clap.specs.declared.builder.ArgAction.TheVariants.{Set}
use Rattle.clap.specs.declared.builder.arg.Arg.{Arg}
use Rattle.clap.specs.declared.builder.command.Command.{Command}
use Rattle.clap.specs.declared.parser.matches.ArgMatches.{ArgMatches}
use Rattle.clap.proofs.CallerLemmas.{required_in_chain}
use Rattle.clap.proofs.SimpleLemmas.{is_false, is_nil}
use Rattle.clap.proofs.TakesLemmas.{each_rule}
use Rattle.clap.proofs.WalkLemmas.{both}
use Rattle.rj_line.specs.Options.{IsBare, IsChain, rule_of_option, with_rules}
use Rattle.rj_line.specs.declared.options.LineOption.{LineOption}
use Rattle.std.proofs.Math.Seq.{take-suc}

turn_more : (start command new : Command) (xs : List Arg) (a : Arg) → AddsInTurn AddsArg start xs command → AddsArg command a new → AddsInTurn AddsArg start (xs ++ a ∷ []) new
turn_more start command new [] a same added = (new, subst (λ (c : Command). AddsArg c a new) (sym same) added, refl)
turn_more start command new (x ∷ xs) a chain added = (chain.0, chain.1, turn_more chain.0 command new xs a chain.2 added)

-- one more option at the end of a chain
pub chain_next : (options : List LineOption) (k : ℕ) (d : LineOption) (start command new : Command) (a : Arg) → k < length options
    → IsChain start (map rule_of_option (take k options)) command → rule_of a ≡ rule_of_option (slice_index_or options k d) → AddsArg command a new
    → IsChain start (map rule_of_option (take (k + 1) options)) new
chain_next options k d start command new a lt chain rule added =
    let next : k + 1 ≡ suc k = omega arith in
    let more : map rule_of_option (take (k + 1) options) ≡ map rule_of_option (take k options) ++ rule_of a ∷ [] =
    ap (λ n. map rule_of_option (take n options)) next
    ∙ (ap (map rule_of_option) (take-suc options k d lt)
    ∙ (map-append rule_of_option (take k options) (slice_index_or options k d ∷ []) ∙ ap (λ r. map rule_of_option (take k options) ++ r ∷ []) (sym rule))) in
    (chain.0 ++ a ∷ [], turn_more start command new chain.0 a chain.1 added, map-append rule_of chain.0 (a ∷ []) ∙ (ap (λ r. r ++ rule_of a ∷ []) chain.2 ∙ sym more))

turns_on : (start middle command : Command) (xs ys : List Arg) → AddsInTurn AddsArg start xs middle → AddsInTurn AddsArg middle ys command → AddsInTurn AddsArg start (xs ++ ys) command
turns_on start middle command [] ys same more = subst (λ (c : Command). AddsInTurn AddsArg c ys command) (sym same) more
turns_on start middle command (x ∷ xs) ys chain more = (chain.0, chain.1, turns_on chain.0 middle command xs ys chain.2 more)

-- a chain behind a chain
pub chain_on : (start middle command : Command) (rules others : List Rule) → IsChain start rules middle → IsChain middle others command → IsChain start (rules ++ others) command
chain_on start middle command rules others first second = (
  first.0 ++ second.0,
  turns_on start middle command first.0 second.0 first.1 second.1,
  map-append rule_of first.0 second.0 ∙ ap₂ (λ a b. a ++ b) first.2 second.2,
)

-- a plain option, named as none that `clap` adds
abbrev pub fits_option : Rule → Bool
fits_option r = r.is_simple && (r.is_free && (not (is_empty r.id) && (not (bytes_eq r.id (codes "help")) && not (bytes_eq r.id (codes "version")))))

simple_facts : (a : Arg) → is_simple_arg a ≡ true → (a.overrides.items ≡ []) × (a.groups.items ≡ []) × (is_some a.val_delim ≡ false) × (a.global ≡ false)
simple_facts a e =
    let p = both _ _ e in
    let q = both _ _ p.1 in
    let r = both _ _ q.1 in
    let s = both _ _ r.1 in
    let t = both (not (is_some a.terminator)) _ s.1 in
    let u = both (not a.allow_hyphen_values) _ t.1 in
    let v = both (not a.allow_negative_numbers) _ u.1 in
    let w = both (not a.require_equals) _ v.1 in
    let x = both (not a.last) _ w.1 in
    (is_nil _ p.0, is_nil _ r.0, is_false _ s.0, is_false _ x.1)

not_same : (a b : Text) → not (bytes_eq a b) ≡ true → a ≡ b → ⊥
not_same a b e same = true≢false (sym ((bytes_eq-Decides a b).1 same) ∙ is_false _ e)

fits_chain : (a : Arg) → fits_option (rule_of a) ≡ true → FitsChain a
fits_chain a e =
    let p = both _ _ e in
    let q = both _ _ p.1 in
    let r = both _ _ q.1 in
    let s = both _ _ r.1 in
    let simple = simple_facts a p.0 in
    let free = both _ _ q.0 in
    let conflicts = both _ _ free.1 in (
      (is_false _ free.0, is_nil _ conflicts.0, simple.0, simple.1),
      simple.3,
      (λ empty. true≢false (sym (ap (λ (t : Text). is_empty t) empty) ∙ is_false _ r.0)),
      (λ auto. elim auto [ inl h ↦ not_same _ _ s.0 h | inr h ↦ not_same _ _ s.1 h ]),
    )

tail : {X : Type 0} (P : X → Type 0) (x : X) (xs : List X) → All P (x ∷ xs) → All P xs
tail P x xs h = λ k d lt. h (suc k) d (omega arith)

turns_app : (start command : Command) (xs : List Arg) → AddsInTurn AddsArg start xs command → All FitsChain xs → app_of command ≡ with_rules (app_of start) (map rule_of xs)
turns_app start command [] same all = ap app_of (sym same)
turns_app start command (a ∷ xs) chain all =
    turns_app chain.0 command xs chain.2 (tail FitsChain a xs all) ∙ ap (λ x. with_rules x (map rule_of xs)) (chain.1.shape (all 0 a (omega arith)).1)

pub all_fit : (xs : List Arg) (rules : List Rule) → map rule_of xs ≡ rules → list_all fits_option rules ≡ true → All FitsChain xs
all_fit xs rules is fits = λ k d lt. fits_chain (slice_index_or xs k d) (each_rule fits_option xs (ap (list_all fits_option) is ∙ fits) k d lt)

-- a chain makes the command of its rules
pub chain_app : (start command : Command) (rules : List Rule) → IsChain start rules command → list_all fits_option rules ≡ true → app_of command ≡ with_rules (app_of start) rules
chain_app start command rules chain fits =
    turns_app start command chain.0 chain.1 (all_fit chain.0 rules chain.2 fits) ∙ ap (with_rules (app_of start)) chain.2

-- no two rules have one id
abbrev pub are_distinct : List Rule → Bool
are_distinct [] = true
are_distinct (r ∷ rules) = not (list_any (λ s. bytes_eq s.id r.id) rules) && are_distinct rules

none_at : (p : Rule → Bool) (rules : List Rule) (k : ℕ) (d : Rule) → list_any p rules ≡ false → k < length rules → p (slice_index_or rules k d) ≡ false
none_at p [] k d none lt = absurd (omega arith)
none_at p (r ∷ rules) zero d none lt = (or_parts (p r) (list_any p rules) none).0
none_at p (r ∷ rules) (suc k) d none lt = none_at p rules k d (or_parts (p r) (list_any p rules) none).1 (omega arith)

flipped : (a b : Text) → bytes_eq a b ≡ true → bytes_eq b a ≡ true
flipped a b e = (bytes_eq-Decides b a).1 (sym ((bytes_eq-Decides a b).0 e))

distinct_at : (rules : List Rule) (j k : ℕ) (d : Rule) → are_distinct rules ≡ true → j < length rules → k < length rules
    → bytes_eq (slice_index_or rules j d).id (slice_index_or rules k d).id ≡ true → j ≡ k
distinct_at [] j k d e lj lk same = absurd (omega arith)
distinct_at (r ∷ rules) zero zero d e lj lk same = refl
distinct_at (r ∷ rules) zero (suc k) d e lj lk same =
    absurd (true≢false (sym (flipped r.id (slice_index_or rules k d).id same) ∙ none_at (λ s. bytes_eq s.id r.id) rules k d (is_false _ (both _ _ e).0) (omega arith)))
distinct_at (r ∷ rules) (suc j) zero d e lj lk same =
    absurd (true≢false (sym same ∙ none_at (λ s. bytes_eq s.id r.id) rules j d (is_false _ (both _ _ e).0) (omega arith)))
distinct_at (r ∷ rules) (suc j) (suc k) d e lj lk same = ap suc (distinct_at rules j k d (both _ _ e).1 (omega arith) (omega arith) same)

pub rule_at : (xs : List Arg) (rules : List Rule) (k : ℕ) (d : Arg) (e : Rule) → map rule_of xs ≡ rules → k < length xs → rule_of (slice_index_or xs k d) ≡ slice_index_or rules k e
rule_at [] rules k d e is lt = absurd (omega arith)
rule_at (x ∷ xs) rules zero d e is lt = ap (λ r. slice_index_or r 0 e) is
rule_at (x ∷ xs) rules (suc k) d e is lt = rule_at xs (map rule_of xs) k d e refl (omega arith) ∙ ap (λ r. slice_index_or r (suc k) e) is

id_at : (xs : List Arg) (rules : List Rule) (k : ℕ) (d : Arg) → map rule_of xs ≡ rules → k < length xs → (slice_index_or xs k d).id.now ≡ (slice_index_or rules k (new_rule [])).id
id_at xs rules k d is lt = ap (λ (r : Rule). r.id) (rule_at xs rules k d (new_rule []) is lt)

pub all_distinct : (xs : List Arg) (rules : List Rule) → map rule_of xs ≡ rules → are_distinct rules ≡ true → HasDistinctIds xs
all_distinct xs rules is e j k d f lj lk same =
    let len : length xs ≡ length rules = sym (length-map xs rule_of) ∙ ap length is in
    distinct_at rules j k (new_rule []) e (omega arith) (omega arith) (ap₂ bytes_eq (sym (id_at xs rules j f is lj)) (sym (id_at xs rules k d is lk)) ∙ same)

abbrev pub is_set_action : Option ArgAction → Bool
is_set_action (Some Set) = true
is_set_action _ = false

set_action : (o : Option ArgAction) → is_set_action o ≡ true → o ≡ Some Set
set_action (Some Set) e = refl
set_action _ e = absurd (true≢false (sym e))

is_absent : {X : Type 0} (o : Option X) → is_some o ≡ false → o ≡ None
is_absent None e = refl
is_absent (Some x) e = absurd (true≢false e)

-- the rule wants a value
abbrev pub wants_value : Rule → Bool
wants_value r = r.required && (is_set_action r.action && not (is_some r.range))

takes_value : (a : Arg) → is_simple_arg a ≡ true → wants_value (rule_of a) ≡ true → TakesValue a
takes_value a simple wants =
    let p = both _ _ wants in
    let q = both _ _ p.1 in
    let range : a.num_vals ≡ None = is_absent a.num_vals (is_false _ q.1) in
    (p.0, set_action a.action q.0, is_absent a.val_delim (simple_facts a simple).2, subst (λ r. 1 ≤ (unwrap_or_range r).start_inclusive) (sym range) (omega arith))

-- a rule of a chain that wants a value has one in each parse
pub wanted_given : (start command : Command) (rules : List Rule) (m : ArgMatches) → IsBare start → IsChain start rules command
    → list_all fits_option rules ≡ true → are_distinct rules ≡ true → (k : ℕ) → k < length rules → wants_value (slice_index_or rules k (new_rule [])) ≡ true
    → IsParsedFrom command m → is_some (first_value (found_of m) (slice_index_or rules k (new_rule [])).id) ≡ true
wanted_given start command rules m bare chain fits distinct k lt wants parsed = go chain.0 chain.1 chain.2 (sym (length-map chain.0 rule_of) ∙ ap length chain.2)
  where
    go : (xs : List Arg) → AddsInTurn AddsArg start xs command → map rule_of xs ≡ rules → length xs ≡ length rules → is_some (first_value (found_of m) (slice_index_or rules k (new_rule [])).id) ≡ true
    go [] turns is len = absurd (omega arith)
    go (x ∷ xs) turns is len =
        let low : k < length (x ∷ xs) = omega arith in
        let rule = rule_at (x ∷ xs) rules k x (new_rule []) is low in
        let fit = both _ _ (each_rule fits_option (x ∷ xs) (ap (list_all fits_option) is ∙ fits) k x low) in
        let value = takes_value (slice_index_or (x ∷ xs) k x) fit.0 (ap wants_value rule ∙ wants) in
        let has = required_in_chain start command (x ∷ xs) k x m turns bare.args bare.groups bare.globals bare.negates
        (all_fit (x ∷ xs) rules is fits) (all_distinct (x ∷ xs) rules is distinct) low value parsed in
        subst (λ t. is_some (first_value (found_of m) t) ≡ true) (ap (λ (r : Rule). r.id) rule) has
