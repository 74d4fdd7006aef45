-- What is in the grammar is read.
use Rattle.std.proofs.Common.{◌≡◌, ℕ, zero, suc, ◌+◌, ◌<◌, ◌≤◌, List, [], ◌∷◌, ◌++◌, length, Option, Some, None, Ok, Bool, true, false, refl, ap, ◌∙◌, append_assoc, arith, le_refl}
use Rattle.rj_condition.specs.declared.token.Keyword.TheVariants as keyword
use Rattle.rj_condition.specs.declared.token.Sign.TheVariants as sign
use Rattle.rj_condition.specs.declared.token.Token.{Token}
use Rattle.rj_condition.specs.declared.token.Token.TheVariants as token
use Rattle.rj_condition.specs.declared.truth.Truth.{Truth}
use Rattle.rj_condition.specs.declared.truth.Truth.TheVariants as truth
use Rattle.rj_condition.specs.declared.tree.Name.{Name}
use Rattle.rj_condition.specs.declared.tree.Operand.{Operand}
use Rattle.rj_condition.specs.declared.tree.Comparison.{Comparison}
use Rattle.rj_condition.specs.declared.tree.Condition.{Condition}
use Rattle.rj_condition.specs.declared.tree.Condition.TheVariants as tree
use Rattle.rj_condition.specs.Grammar.{optional, sign_of, keyword_of_truth, any_of, all_of, IsOperand, plain_name, qualified_name, integer, decimal, text, IsOperands, last_operand, more_operands, IsNames, last_name, more_names, IsPredicate, compare, is_null, between, among, IsFactor, not, test, IsTest, plain, is_truth, IsPrimary, predicate, group, IsFactors, last_factor, and_factors, IsTerms, last_term, or_terms}
use Rattle.rj_condition.specs.Internal.Reading.{Read, ◌>>=◌, expect, go_on, separated, after, behind, name_at, column_of, column_at, operand_at, operands_at, names_at, operator_at, null_at, bounds_at, members_at, range_at, by_operator, test_of, predicate_at, negated, factor_of, factor_at, factors_at, term_at, terms_at, cond_at, term_with, cond_with, group_with, truth_at, truth_test_at, suffix_of, suffix, primary_of, primary_with, test_with, primary_at, test_at}
use Rattle.rj_condition.proofs.Turns.{turn_of}
use Rattle.rj_condition.proofs.Behind.{operator_here, operator_no_point}

-- each part takes a token
operand_shorter : (ts : List Token) (x : Operand) (us : List Token) → IsOperand ts x us → length us < length ts
operand_shorter _ _ _ (plain_name n us) = omega arith
operand_shorter _ _ _ (qualified_name q n us) = omega arith
operand_shorter _ _ _ (integer z us) = omega arith
operand_shorter _ _ _ (decimal d us) = omega arith
operand_shorter _ _ _ (text w us) = omega arith

operands_shorter : (ts : List Token) (xs : List Operand) (us : List Token) → IsOperands ts xs us → length us < length ts
operands_shorter _ _ _ (last_operand ts x us h) = operand_shorter ts x us h
operands_shorter _ _ _ (more_operands ts x vs xs us h k) = omega (arith, operand_shorter ts x (token.Sign sign.Comma ∷ vs) h, operands_shorter vs xs us k)

optional_length : (negated : Bool) (us : List Token) → length us ≤ length (optional negated keyword.Not us)
optional_length true us = omega arith
optional_length false us = le_refl (length us)

predicate_shorter : (ts : List Token) (c : Condition) (us : List Token) → IsPredicate ts c us → length us < length ts
predicate_shorter _ _ _ (compare ts x op vs y us h k) = omega (arith, operand_shorter ts x (token.Sign (sign_of op) ∷ vs) h, operand_shorter vs y us k)
predicate_shorter _ _ _ (is_null ts x negated us h) =
    omega (arith, operand_shorter ts x (token.Keyword keyword.Is ∷ optional negated keyword.Not (token.Keyword keyword.Null ∷ us)) h, optional_length negated (token.Keyword keyword.Null ∷ us))
predicate_shorter _ _ _ (between ts x negated vs low ws high us h k l) =
    omega (
      arith,
      operand_shorter ts x (optional negated keyword.Not (token.Keyword keyword.Between ∷ vs)) h,
      optional_length negated (token.Keyword keyword.Between ∷ vs),
      operand_shorter vs low (token.Keyword keyword.And ∷ ws) k,
      operand_shorter ws high us l,
    )
predicate_shorter _ _ _ (among ts x negated vs xs us h k) =
    omega (
      arith,
      operand_shorter ts x (optional negated keyword.Not (token.Keyword keyword.In ∷ token.Sign sign.Open ∷ vs)) h,
      optional_length negated (token.Keyword keyword.In ∷ token.Sign sign.Open ∷ vs),
      operands_shorter vs xs (token.Sign sign.Close ∷ us) k,
    )

mutual
  factor_shorter : (ts : List Token) (c : Condition) (us : List Token) → IsFactor ts c us → length us < length ts
  factor_shorter _ _ _ (not ts c us h) = omega (arith, factor_shorter ts c us h)
  factor_shorter _ _ _ (test ts c us h) = test_shorter ts c us h

  test_shorter : (ts : List Token) (c : Condition) (us : List Token) → IsTest ts c us → length us < length ts
  test_shorter _ _ _ (plain ts c us h) = primary_shorter ts c us h
  test_shorter _ _ _ (is_truth ts c t negated us h) =
      omega (
        arith,
        primary_shorter ts c (token.Keyword keyword.Is ∷ optional negated keyword.Not (token.Keyword (keyword_of_truth t) ∷ us)) h,
        optional_length negated (token.Keyword (keyword_of_truth t) ∷ us),
      )

  primary_shorter : (ts : List Token) (c : Condition) (us : List Token) → IsPrimary ts c us → length us < length ts
  primary_shorter _ _ _ (predicate ts c us h) = predicate_shorter ts c us h
  primary_shorter _ _ _ (group ts cs us h) = omega (arith, terms_shorter ts cs (token.Sign sign.Close ∷ us) h)

  factors_shorter : (ts : List Token) (cs : List Condition) (us : List Token) → IsFactors ts cs us → length us < length ts
  factors_shorter _ _ _ (last_factor ts c us h) = factor_shorter ts c us h
  factors_shorter _ _ _ (and_factors ts c vs cs us h k) = omega (arith, factor_shorter ts c (token.Keyword keyword.And ∷ vs) h, factors_shorter vs cs us k)

  terms_shorter : (ts : List Token) (cs : List Condition) (us : List Token) → IsTerms ts cs us → length us < length ts
  terms_shorter _ _ _ (last_term ts cs us h) = factors_shorter ts cs us h
  terms_shorter _ _ _ (or_terms ts cs vs ds us h k) = omega (arith, factors_shorter ts cs (token.Keyword keyword.Or ∷ vs) h, terms_shorter vs ds us k)

-- Lists with separators, of items that are read in whole.
module _ {A : Type 0} (item : List Token → Read A) (next : List Token → Option (List Token)) where
  pub read_last : (n : ℕ) (found : List A) (ts : List Token) (x : A) (us : List Token) → item ts ≡ Ok (x, us) → next us ≡ None → 0 < n →
      separated item next n found ts ≡ Ok (found ++ x ∷ [], us)
  read_last zero found ts x us e f lt = absurd (omega arith)
  read_last (suc n) found ts x us e f lt =
      turn_of item next n found ts x us e
      ∙ ap (λ o. go_on o (Ok (found ++ x ∷ [], us)) (λ ws. separated item next n (found ++ x ∷ []) ws)) f

  pub read_more : (n : ℕ) (found : List A) (ts : List Token) (x : A) (us vs : List Token) → item ts ≡ Ok (x, us) → next us ≡ Some vs →
      separated item next (suc n) found ts ≡ separated item next n (found ++ x ∷ []) vs
  read_more n found ts x us vs e f =
      turn_of item next n found ts x us e
      ∙ ap (λ o. go_on o (Ok (found ++ x ∷ [], us)) (λ ws. separated item next n (found ++ x ∷ []) ws)) f

regroup : {A : Type 0} (found : List A) (x : A) (xs : List A) (us : List Token) → ◌≡◌ {A = Read (List A)} (Ok ((found ++ x ∷ []) ++ xs, us)) (Ok (found ++ x ∷ xs, us))
regroup {A} found x xs us = ap (λ (z : List A). Ok (z, us)) (append_assoc found (x ∷ []) xs)

-- operands
pub operand_complete : (ts : List Token) (x : Operand) (us : List Token) → IsOperand ts x us → behind sign.Point us ≡ None → operand_at ts ≡ Ok (x, us)
unfolding operand_at column_at name_at behind
operand_complete _ _ _ (plain_name n us) p = ap (column_of n us) p
operand_complete _ _ _ (qualified_name q n us) p = refl
operand_complete _ _ _ (integer z us) p = refl
operand_complete _ _ _ (decimal d us) p = refl
operand_complete _ _ _ (text w us) p = refl

comma_no_point : (us : List Token) → behind sign.Point (token.Sign sign.Comma ∷ us) ≡ None
unfolding behind
comma_no_point us = refl

comma_here : (us : List Token) → behind sign.Comma (token.Sign sign.Comma ∷ us) ≡ Some us
unfolding behind
comma_here us = refl

operands_found : (ts : List Token) (xs : List Operand) (us : List Token) → IsOperands ts xs us → behind sign.Point us ≡ None → behind sign.Comma us ≡ None →
    (n : ℕ) (found : List Operand) → length ts ≤ n → separated operand_at (behind sign.Comma) n found ts ≡ Ok (found ++ xs, us)
operands_found _ _ _ (last_operand ts x us h) p e n found le =
    read_last operand_at (behind sign.Comma) n found ts x us (operand_complete ts x us h p) e (omega (arith, operand_shorter ts x us h))
operands_found _ _ _ (more_operands ts x vs xs us h k) p e zero found le = absurd (omega (arith, operand_shorter ts x (token.Sign sign.Comma ∷ vs) h))
operands_found _ _ _ (more_operands ts x vs xs us h k) p e (suc n) found le =
    read_more operand_at (behind sign.Comma) n found ts x (token.Sign sign.Comma ∷ vs) vs (operand_complete ts x (token.Sign sign.Comma ∷ vs) h (comma_no_point vs)) (comma_here vs)
    ∙ operands_found vs xs us k p e n (found ++ x ∷ []) (omega (arith, operand_shorter ts x (token.Sign sign.Comma ∷ vs) h))
    ∙ regroup found x xs us

operands_complete : (ts : List Token) (xs : List Operand) (us : List Token) → IsOperands ts xs us → behind sign.Point us ≡ None → behind sign.Comma us ≡ None → operands_at ts ≡ Ok (xs, us)
unfolding operands_at
operands_complete ts xs us h p e = operands_found ts xs us h p e (length ts) [] (le_refl (length ts))

-- names
name_here : (n : Name) (us : List Token) → name_at (token.Name n ∷ us) ≡ Ok (n, us)
unfolding name_at
name_here n us = refl

names_found : (ts : List Token) (ns : List Name) (us : List Token) → IsNames ts ns us → behind sign.Comma us ≡ None →
    (n : ℕ) (found : List Name) → length ts ≤ n → separated name_at (behind sign.Comma) n found ts ≡ Ok (found ++ ns, us)
names_found _ _ _ (last_name n us) e m found le = read_last name_at (behind sign.Comma) m found (token.Name n ∷ us) n us (name_here n us) e (omega arith)
names_found _ _ _ (more_names n vs ns us k) e zero found le = absurd (omega arith)
names_found _ _ _ (more_names n vs ns us k) e (suc m) found le =
    read_more name_at (behind sign.Comma) m found (token.Name n ∷ token.Sign sign.Comma ∷ vs) n (token.Sign sign.Comma ∷ vs) vs (name_here n (token.Sign sign.Comma ∷ vs)) (comma_here vs)
    ∙ names_found vs ns us k e m (found ++ n ∷ []) (omega arith)
    ∙ regroup found n ns us

pub names_complete : (ts : List Token) (ns : List Name) (us : List Token) → IsNames ts ns us → behind sign.Comma us ≡ None → names_at ts ≡ Ok (ns, us)
unfolding names_at
names_complete ts ns us h e = names_found ts ns us h e (length ts) [] (le_refl (length ts))

-- predicates, by what stands behind their first operand
compare_told : (x : Operand) (op : Comparison) (vs : List Token) (y : Operand) (us : List Token) → IsOperand vs y us → behind sign.Point us ≡ None →
    test_of x (token.Sign (sign_of op) ∷ vs) ≡ Ok (tree.Compare x op y, us)
unfolding test_of
compare_told x op vs y us k p =
    ap (by_operator x (token.Sign (sign_of op) ∷ vs)) (operator_here op vs) ∙ ap (λ (r : Read Operand). r >>= λ y. Ok (tree.Compare x op y.0, y.1)) (operand_complete vs y us k p)

null_told : (x : Operand) (negated : Bool) (us : List Token) → test_of x (token.Keyword keyword.Is ∷ optional negated keyword.Not (token.Keyword keyword.Null ∷ us)) ≡ Ok (tree.IsNull x negated, us)
unfolding test_of operator_at after null_at
null_told x true us = refl
null_told x false us = refl

and_no_point : (ws : List Token) → behind sign.Point (token.Keyword keyword.And ∷ ws) ≡ None
unfolding behind
and_no_point ws = refl

bounds_told : (x : Operand) (negated : Bool) (vs : List Token) (low : Operand) (ws : List Token) (high : Operand) (us : List Token) →
    IsOperand vs low (token.Keyword keyword.And ∷ ws) → IsOperand ws high us → behind sign.Point us ≡ None → bounds_at x negated vs ≡ Ok (tree.Between x low high negated, us)
unfolding bounds_at after
bounds_told x negated vs low ws high us k l p =
    ap (λ (r : Read Operand). r >>= λ low. expect (after keyword.And low.1) low.1 >>= λ u. operand_at u.1 >>= λ high. Ok (tree.Between x low.0 high.0 negated, high.1))
    (operand_complete vs low (token.Keyword keyword.And ∷ ws) k (and_no_point ws))
    ∙ ap (λ (r : Read Operand). r >>= λ high. Ok (tree.Between x low high.0 negated, high.1)) (operand_complete ws high us l p)

between_told : (x : Operand) (negated : Bool) (vs : List Token) → test_of x (optional negated keyword.Not (token.Keyword keyword.Between ∷ vs)) ≡ bounds_at x negated vs
unfolding test_of operator_at after range_at
between_told x true vs = refl
between_told x false vs = refl

close_no_point : (us : List Token) → behind sign.Point (token.Sign sign.Close ∷ us) ≡ None
unfolding behind
close_no_point us = refl

pub close_no_comma : (us : List Token) → behind sign.Comma (token.Sign sign.Close ∷ us) ≡ None
unfolding behind
close_no_comma us = refl

members_told : (x : Operand) (negated : Bool) (vs : List Token) (xs : List Operand) (us : List Token) → IsOperands vs xs (token.Sign sign.Close ∷ us) →
    members_at x negated (token.Sign sign.Open ∷ vs) ≡ Ok (tree.In x xs negated, us)
unfolding members_at behind
members_told x negated vs xs us k =
    ap (λ (r : Read (List Operand)). r >>= λ xs. expect (behind sign.Close xs.1) xs.1 >>= λ u. Ok (tree.In x xs.0 negated, u.1))
    (operands_complete vs xs (token.Sign sign.Close ∷ us) k (close_no_point us) (close_no_comma us))

in_told : (x : Operand) (negated : Bool) (vs : List Token) → test_of x (optional negated keyword.Not (token.Keyword keyword.In ∷ vs)) ≡ members_at x negated vs
unfolding test_of operator_at after range_at
in_told x true vs = refl
in_told x false vs = refl

-- none of these words goes on a name
is_no_point : (us : List Token) → behind sign.Point (token.Keyword keyword.Is ∷ us) ≡ None
unfolding behind
is_no_point us = refl

between_no_point : (negated : Bool) (us : List Token) → behind sign.Point (optional negated keyword.Not (token.Keyword keyword.Between ∷ us)) ≡ None
unfolding behind
between_no_point true us = refl
between_no_point false us = refl

in_no_point : (negated : Bool) (us : List Token) → behind sign.Point (optional negated keyword.Not (token.Keyword keyword.In ∷ us)) ≡ None
unfolding behind
in_no_point true us = refl
in_no_point false us = refl

told_behind : (ts : List Token) (x : Operand) (us : List Token) → IsOperand ts x us → behind sign.Point us ≡ None → predicate_at ts ≡ test_of x us
unfolding predicate_at
told_behind ts x us h p = ap (λ (r : Read Operand). r >>= λ x. test_of x.0 x.1) (operand_complete ts x us h p)

predicate_complete : (ts : List Token) (c : Condition) (us : List Token) → IsPredicate ts c us → behind sign.Point us ≡ None → predicate_at ts ≡ Ok (c, us)
predicate_complete _ _ _ (compare ts x op vs y us h k) p = told_behind ts x (token.Sign (sign_of op) ∷ vs) h (operator_no_point op vs) ∙ compare_told x op vs y us k p
predicate_complete _ _ _ (is_null ts x negated us h) p =
    let rest = optional negated keyword.Not (token.Keyword keyword.Null ∷ us) in
    told_behind ts x (token.Keyword keyword.Is ∷ rest) h (is_no_point rest) ∙ null_told x negated us
predicate_complete _ _ _ (between ts x negated vs low ws high us h k l) p =
    told_behind ts x (optional negated keyword.Not (token.Keyword keyword.Between ∷ vs)) h (between_no_point negated vs) ∙ between_told x negated vs ∙ bounds_told x negated vs low ws high us k l p
predicate_complete _ _ _ (among ts x negated vs xs us h k) p =
    told_behind ts x (optional negated keyword.Not (token.Keyword keyword.In ∷ token.Sign sign.Open ∷ vs)) h (in_no_point negated (token.Sign sign.Open ∷ vs))
    ∙ in_told x negated (token.Sign sign.Open ∷ vs)
    ∙ members_told x negated vs xs us k

-- what a predicate and a primary begin with
operand_first : (ts : List Token) (x : Operand) (us : List Token) → IsOperand ts x us → (behind sign.Open ts ≡ None) × (after keyword.Not ts ≡ None)
unfolding behind after
operand_first _ _ _ (plain_name n us) = (refl, refl)
operand_first _ _ _ (qualified_name q n us) = (refl, refl)
operand_first _ _ _ (integer z us) = (refl, refl)
operand_first _ _ _ (decimal d us) = (refl, refl)
operand_first _ _ _ (text w us) = (refl, refl)

predicate_first : (ts : List Token) (c : Condition) (us : List Token) → IsPredicate ts c us → (behind sign.Open ts ≡ None) × (after keyword.Not ts ≡ None)
predicate_first _ _ _ (compare ts x op vs y us h k) = operand_first ts x (token.Sign (sign_of op) ∷ vs) h
predicate_first _ _ _ (is_null ts x negated us h) = operand_first ts x (token.Keyword keyword.Is ∷ optional negated keyword.Not (token.Keyword keyword.Null ∷ us)) h
predicate_first _ _ _ (between ts x negated vs low ws high us h k l) = operand_first ts x (optional negated keyword.Not (token.Keyword keyword.Between ∷ vs)) h
predicate_first _ _ _ (among ts x negated vs xs us h k) = operand_first ts x (optional negated keyword.Not (token.Keyword keyword.In ∷ token.Sign sign.Open ∷ vs)) h

primary_first : (ts : List Token) (c : Condition) (us : List Token) → IsPrimary ts c us → after keyword.Not ts ≡ None
unfolding after
primary_first _ _ _ (predicate ts c us h) = (predicate_first ts c us h).1
primary_first _ _ _ (group ts cs us h) = refl

test_first : (ts : List Token) (c : Condition) (us : List Token) → IsTest ts c us → after keyword.Not ts ≡ None
test_first _ _ _ (plain ts c us h) = primary_first ts c us h
test_first _ _ _ (is_truth ts c t negated us h) = primary_first ts c (token.Keyword keyword.Is ∷ optional negated keyword.Not (token.Keyword (keyword_of_truth t) ∷ us)) h

-- IS and its truth value
suffix_truth : (c : Condition) (t : Truth) (negated : Bool) (us : List Token) →
    suffix c (token.Keyword keyword.Is ∷ optional negated keyword.Not (token.Keyword (keyword_of_truth t) ∷ us)) ≡ Ok (tree.Is c t negated, us)
unfolding suffix after truth_test_at truth_at
suffix_truth c truth.False true us = refl
suffix_truth c truth.Unknown true us = refl
suffix_truth c truth.True true us = refl
suffix_truth c truth.False false us = refl
suffix_truth c truth.Unknown false us = refl
suffix_truth c truth.True false us = refl

suffix_none : (c : Condition) (us : List Token) → after keyword.Is us ≡ None → suffix c us ≡ Ok (c, us)
unfolding suffix
suffix_none c us e = ap (suffix_of c us) e

abbrev pub named : (List Condition → Condition) → Read (List Condition) → Read Condition
named f r = r >>= λ x. Ok (f x.0, x.1)

abbrev closed : Read Condition → Read Condition
closed r = r >>= λ x. expect (behind sign.Close x.1) x.1 >>= λ u. Ok (x.0, u.1)

abbrev suffixed : Read Condition → Read Condition
suffixed r = r >>= λ x. suffix x.0 x.1

close_here : (us : List Token) → behind sign.Close (token.Sign sign.Close ∷ us) ≡ Some us
unfolding behind
close_here us = refl

-- what ends a condition
pub record IsEnd (us : List Token) : Type 0 where
  pub no_point : behind sign.Point us ≡ None
  pub no_is : after keyword.Is us ≡ None
  pub no_and : after keyword.And us ≡ None
  pub no_or : after keyword.Or us ≡ None

pub end_close : (us : List Token) → IsEnd (token.Sign sign.Close ∷ us)
unfolding behind after
end_close us = record { no_point = refl; no_is = refl; no_and = refl; no_or = refl }

pub end_nothing : IsEnd []
unfolding behind after
end_nothing = record { no_point = refl; no_is = refl; no_and = refl; no_or = refl }

-- what ends a factor and a term
pub record IsFactorEnd (us : List Token) : Type 0 where
  pub no_point : behind sign.Point us ≡ None
  pub no_is : after keyword.Is us ≡ None

and_ends_factor : (us : List Token) → IsFactorEnd (token.Keyword keyword.And ∷ us)
unfolding behind after
and_ends_factor us = record { no_point = refl; no_is = refl }

or_ends_factor : (us : List Token) → IsFactorEnd (token.Keyword keyword.Or ∷ us)
unfolding behind after
or_ends_factor us = record { no_point = refl; no_is = refl }

and_here : (us : List Token) → after keyword.And (token.Keyword keyword.And ∷ us) ≡ Some us
unfolding after
and_here us = refl

or_here : (us : List Token) → after keyword.Or (token.Keyword keyword.Or ∷ us) ≡ Some us
unfolding after
or_here us = refl

or_no_and : (us : List Token) → after keyword.And (token.Keyword keyword.Or ∷ us) ≡ None
unfolding after
or_no_and us = refl

factor_negated : (n : ℕ) (ts : List Token) → factor_at (suc n) (token.Keyword keyword.Not ∷ ts) ≡ negated (factor_at n ts)
unfolding factor_at after
factor_negated n ts = refl

factor_tested : (n : ℕ) (ts : List Token) → after keyword.Not ts ≡ None → factor_at (suc n) ts ≡ test_at n ts
unfolding factor_at
factor_tested n ts e = ap (factor_of (factor_at n) n ts) e

test_suffixed : (n : ℕ) (ts : List Token) (r : Read Condition) → primary_at n ts ≡ r → test_at n ts ≡ suffixed r
unfolding test_with
test_suffixed n ts r e = ap suffixed e

primary_grouped : (n : ℕ) (ts : List Token) (r : Read (List Condition)) → terms_at n ts ≡ r → primary_at n (token.Sign sign.Open ∷ ts) ≡ closed (named any_of r)
unfolding primary_with group_with cond_with behind
primary_grouped n ts r e = ap (λ (r : Read (List Condition)). closed (named any_of r)) e

primary_predicate : (n : ℕ) (ts : List Token) → behind sign.Open ts ≡ None → primary_at n ts ≡ predicate_at ts
unfolding primary_with
primary_predicate n ts e = ap (primary_of (factor_at n) n ts) e

term_named : (n : ℕ) (ts : List Token) (r : Read (List Condition)) → factors_at n ts ≡ r → term_at n ts ≡ named all_of r
unfolding term_with
term_named n ts r e = ap (named all_of) e

closed_group : (cs : List Condition) (us : List Token) → closed (named any_of (Ok (cs, token.Sign sign.Close ∷ us))) ≡ Ok (any_of cs, us)
closed_group cs us = ap (λ (o : Option (List Token)). expect o (token.Sign sign.Close ∷ us) >>= λ u. Ok (any_of cs, u.1)) (close_here us)

mutual
  pub factor_complete : (ts : List Token) (c : Condition) (us : List Token) → IsFactor ts c us → IsFactorEnd us → (n : ℕ) → length ts ≤ n → factor_at n ts ≡ Ok (c, us)
  factor_complete _ _ _ (not ts c us h) e zero le = absurd (omega arith)
  factor_complete _ _ _ (not ts c us h) e (suc n) le = factor_negated n ts ∙ ap negated (factor_complete ts c us h e n (omega arith))
  factor_complete _ _ _ (test ts c us h) e zero le = absurd (omega (arith, test_shorter ts c us h))
  factor_complete _ _ _ (test ts c us h) e (suc n) le = factor_tested n ts (test_first ts c us h) ∙ test_complete ts c us h e n (omega arith)

  test_complete : (ts : List Token) (c : Condition) (us : List Token) → IsTest ts c us → IsFactorEnd us → (n : ℕ) → length ts ≤ n + 1 → test_at n ts ≡ Ok (c, us)
  test_complete _ _ _ (plain ts c us h) e n le = test_suffixed n ts (Ok (c, us)) (primary_complete ts c us h e.no_point n le) ∙ suffix_none c us e.no_is
  test_complete _ _ _ (is_truth ts c t negated us h) e n le =
      let rest = optional negated keyword.Not (token.Keyword (keyword_of_truth t) ∷ us) in
      test_suffixed n ts (Ok (c, token.Keyword keyword.Is ∷ rest)) (primary_complete ts c (token.Keyword keyword.Is ∷ rest) h (is_no_point rest) n le) ∙ suffix_truth c t negated us

  primary_complete : (ts : List Token) (c : Condition) (us : List Token) → IsPrimary ts c us → behind sign.Point us ≡ None → (n : ℕ) → length ts ≤ n + 1 → primary_at n ts ≡ Ok (c, us)
  primary_complete _ _ _ (predicate ts c us h) p n le = primary_predicate n ts (predicate_first ts c us h).0 ∙ predicate_complete ts c us h p
  primary_complete _ _ _ (group ts cs us h) p n le =
      primary_grouped n ts (Ok (cs, token.Sign sign.Close ∷ us)) (terms_complete ts cs (token.Sign sign.Close ∷ us) h (end_close us) n n [] (omega arith) (omega arith)) ∙ closed_group cs us

  factors_complete : (ts : List Token) (cs : List Condition) (us : List Token) → IsFactors ts cs us → IsFactorEnd us → after keyword.And us ≡ None →
      (n m : ℕ) (found : List Condition) → length ts ≤ n → length ts ≤ m → separated (factor_at m) (after keyword.And) n found ts ≡ Ok (found ++ cs, us)
  factors_complete _ _ _ (last_factor ts c us h) i e n m found p q =
      read_last (factor_at m) (after keyword.And) n found ts c us (factor_complete ts c us h i m q) e (omega (arith, factor_shorter ts c us h))
  factors_complete _ _ _ (and_factors ts c vs cs us h k) i e zero m found p q = absurd (omega (arith, factor_shorter ts c (token.Keyword keyword.And ∷ vs) h))
  factors_complete _ _ _ (and_factors ts c vs cs us h k) i e (suc n) m found p q =
      let s = factor_shorter ts c (token.Keyword keyword.And ∷ vs) h in
      read_more (factor_at m) (after keyword.And) n found ts c (token.Keyword keyword.And ∷ vs) vs (factor_complete ts c (token.Keyword keyword.And ∷ vs) h (and_ends_factor vs) m q) (and_here vs)
      ∙ factors_complete vs cs us k i e n m (found ++ c ∷ []) (omega (arith, s)) (omega (arith, s))
      ∙ regroup found c cs us

  pub terms_complete : (ts : List Token) (cs : List Condition) (us : List Token) → IsTerms ts cs us → IsEnd us →
      (n m : ℕ) (found : List Condition) → length ts ≤ n → length ts ≤ m → separated (term_at m) (after keyword.Or) n found ts ≡ Ok (found ++ cs, us)
  terms_complete _ _ _ (last_term ts cs us h) e n m found p q =
      read_last (term_at m) (after keyword.Or) n found ts (all_of cs) us
      (term_named m ts (Ok (cs, us)) (factors_complete ts cs us h record { no_point = e.no_point; no_is = e.no_is } e.no_and m m [] q q)) e.no_or (omega (arith, factors_shorter ts cs us h))
  terms_complete _ _ _ (or_terms ts cs vs ds us h k) e zero m found p q = absurd (omega (arith, factors_shorter ts cs (token.Keyword keyword.Or ∷ vs) h))
  terms_complete _ _ _ (or_terms ts cs vs ds us h k) e (suc n) m found p q =
      let s = factors_shorter ts cs (token.Keyword keyword.Or ∷ vs) h in
      read_more (term_at m) (after keyword.Or) n found ts (all_of cs) (token.Keyword keyword.Or ∷ vs) vs
      (term_named m ts (Ok (cs, token.Keyword keyword.Or ∷ vs)) (factors_complete ts cs (token.Keyword keyword.Or ∷ vs) h (or_ends_factor vs) (or_no_and vs) m m [] q q)) (or_here vs)
      ∙ terms_complete vs ds us k e n m (found ++ all_of cs ∷ []) (omega (arith, s)) (omega (arith, s))
      ∙ regroup found (all_of cs) ds us

-- a whole condition
pub cond_complete : (ts : List Token) (cs : List Condition) → IsTerms ts cs [] → cond_at (length ts) ts ≡ Ok (any_of cs, [])
unfolding cond_with
cond_complete ts cs h = ap (named any_of) (terms_complete ts cs [] h end_nothing (length ts) (length ts) [] (le_refl (length ts)) (le_refl (length ts)))
