-- Each reader of the grammar takes what the grammar derives, and stops at the first token that can't follow.
use Rattle.std.proofs.Common.{◌≡◌, ◌∙◌, ◌≤◌, ◌++◌, ◌∷◌, [], ℕ, zero, suc, List, Bool, true, false, Option, Some, None, Ok, Err, ap, refl, sym, subst, arith, le_refl, length, codes}
use Rattle.rj_condition.specs.declared.token.Keyword.TheVariants as keyword
use Rattle.rj_condition.specs.declared.token.Sign.TheVariants as sign
use Rattle.rj_condition.specs.declared.token.Token.{Token}
use Rattle.rj_condition.specs.declared.token.Token.TheVariants as token
use Rattle.rj_condition.specs.declared.truth.Truth.{Truth}
use Rattle.rj_condition.specs.declared.truth.Truth.TheVariants as truth
use Rattle.rj_condition.specs.declared.tree.Name.{Name}
use Rattle.rj_condition.specs.declared.tree.Operand.{Operand}
use Rattle.rj_condition.specs.declared.tree.Operand.TheVariants as operand
use Rattle.rj_condition.specs.declared.tree.Comparison.{Comparison}
use Rattle.rj_condition.specs.declared.tree.Condition.{Condition}
use Rattle.rj_condition.specs.declared.tree.Condition.TheVariants as tree
use Rattle.rj_condition.specs.Grammar.{optional, any_of, all_of, keyword_of_truth, plain_column, qualified_column, sign_of, IsOperand, plain_name, qualified_name, integer, decimal, text, IsOperands, last_operand, more_operands, IsNames, last_name, more_names, IsPredicate, compare, is_null, between, among, IsFactor, not, test, IsTest, plain, is_truth, IsPrimary, predicate, group, IsFactors, last_factor, and_factors, IsTerms, last_term, or_terms}
use Rattle.rj_condition.specs.Internal.Reading.{Read, ◌>>=◌, closed, expect, after, behind, optionally, separated, name_at, column_of, column_at, operand_at, operands_at, names_at, operator_at, null_at, bounds_at, members_at, by_in, by_between, range_at, by_is, by_operator, test_of, predicate_at, negated, factors_with, terms_with, factor_of, factor_at, factors_at, term_at, terms_at, cond_at, term_with, cond_with, group_with, truth_at, truth_test_at, suffix_of, suffix, primary_of, primary_with, test_with}
use Rattle.rj_condition.proofs.Stopping.{Begins, IsReader, IsStep, behind_token, bound, branched, by_next, failing, giving, next_keyword, next_operator, next_sign, separated_reader, then_next, weaker}
use Rattle.rj_condition.proofs.Fuel.{enough, fueled, separated_nothing}
use Rattle.rj_condition.proofs.Behind.{after_next, behind_next}

-- names
abbrev pub IsOneName : List Token → Name → List Token → Type 0
IsOneName ts n us = ts ≡ token.Name n ∷ us

a_name : Name
a_name = record { text = codes "a"; delimited = false }

name_begins : Begins Name IsOneName []
name_begins = (token.Name a_name ∷ [], a_name, λ ws. refl)

name_step : (ts : List Token) → IsStep Name name_at IsOneName ts (name_at ts)
unfolding name_at
name_step [] = record {
  before = [];
  rest = [];
  parts = refl;
  many = refl;
  again = λ us follows. subst (λ (z : List Token). name_at z ≡ Err (length z)) (sym follows) refl;
  begins = name_begins;
}
name_step (token.Name n ∷ ts) = record { taken = token.Name n ∷ []; parts = refl; again = λ us follows. refl; related = λ ws. refl }
name_step (t ∷ ts) = record {
  before = [];
  rest = t ∷ ts;
  parts = refl;
  many = refl;
  again = λ us follows. subst (λ (z : List Token). name_at z ≡ Err (length z)) (sym follows.1) refl;
  begins = name_begins;
}

pub name_reader : IsReader Name name_at IsOneName
name_reader = record { step = name_step; begins = name_begins }

name_nothing : name_at [] ≡ Err 0
unfolding name_at
name_nothing = refl

pub names_reader : IsReader (List Name) names_at IsNames
unfolding names_at
names_reader =
    fueled names_at (λ m. separated name_at (behind sign.Comma) m []) IsNames
    (separated_reader name_at (token.Sign sign.Comma) (behind sign.Comma) (next_sign sign.Comma) IsOneName IsNames name_reader
    (λ ts n us e. subst (λ (z : List Token). IsNames z (n ∷ []) us) (sym e) (last_name n us))
    (λ ts n vs ns us e l. subst (λ (z : List Token). IsNames z (n ∷ ns) us) (sym e) (more_names n vs ns us l)))
    (λ m ts le. enough (token.Sign sign.Comma) (behind sign.Comma) (behind_next sign.Comma) name_at name_at IsOneName name_reader name_nothing (length ts)
    (λ us l. refl) (length ts) m [] ts (le_refl (length ts)) le (le_refl (length ts)))

-- operands
operand_begins : Begins Operand IsOperand []
operand_begins = (token.Name a_name ∷ [], operand.Column (plain_column a_name), λ ws. plain_name a_name ws)

-- what stands behind the first name of a column
column_reader : (n : Name) → IsReader Operand (λ us. column_of n us (behind sign.Point us)) (λ us. IsOperand (token.Name n ∷ us))
column_reader n =
    by_next (token.Sign sign.Point) (behind sign.Point) (next_sign sign.Point) (λ us. IsOperand (token.Name n ∷ us)) (column_of n)
    (bound name_at IsOneName (λ m us. Ok (operand.Column (qualified_column n m), us)) (λ us. IsOperand (token.Name n ∷ token.Sign sign.Point ∷ us)) name_reader
    (λ m. giving (operand.Column (qualified_column n m))
    (λ us y ws. (ts : List Token) → IsOneName ts m us → IsOperand (token.Name n ∷ token.Sign sign.Point ∷ ts) y ws)
    (λ ws ts e. subst (λ (z : List Token). IsOperand (token.Name n ∷ token.Sign sign.Point ∷ z) (operand.Column (qualified_column n m)) ws) (sym e)
    (qualified_name n m ws))))
    (giving (operand.Column (plain_column n)) (λ us. IsOperand (token.Name n ∷ us)) (λ ws. plain_name n ws))

operand_step : (ts : List Token) → IsStep Operand operand_at IsOperand ts (operand_at ts)
unfolding operand_at column_at name_at
operand_step [] = record {
  before = [];
  rest = [];
  parts = refl;
  many = refl;
  again = λ us follows. subst (λ (z : List Token). operand_at z ≡ Err (length z)) (sym follows) refl;
  begins = operand_begins;
}
operand_step (token.Integer z ∷ ts) = record { taken = token.Integer z ∷ []; parts = refl; again = λ us follows. refl; related = λ ws. integer z ws }
operand_step (token.Decimal d ∷ ts) = record { taken = token.Decimal d ∷ []; parts = refl; again = λ us follows. refl; related = λ ws. decimal d ws }
operand_step (token.Text w ∷ ts) = record { taken = token.Text w ∷ []; parts = refl; again = λ us follows. refl; related = λ ws. text w ws }
operand_step (token.Name n ∷ ts) =
    behind_token (token.Name n) operand_at IsOperand ts (column_of n ts (behind sign.Point ts)) ((column_reader n).step ts)
operand_step (t ∷ ts) = record {
  before = [];
  rest = t ∷ ts;
  parts = refl;
  many = refl;
  again = λ us follows. subst (λ (z : List Token). operand_at z ≡ Err (length z)) (sym follows.1) refl;
  begins = operand_begins;
}

pub operand_reader : IsReader Operand operand_at IsOperand
operand_reader = record { step = operand_step; begins = operand_begins }

operand_nothing : operand_at [] ≡ Err 0
unfolding operand_at column_at name_at
operand_nothing = refl

operands_reader : IsReader (List Operand) operands_at IsOperands
unfolding operands_at
operands_reader =
    fueled operands_at (λ m. separated operand_at (behind sign.Comma) m []) IsOperands
    (separated_reader operand_at (token.Sign sign.Comma) (behind sign.Comma) (next_sign sign.Comma) IsOperand IsOperands operand_reader last_operand
    (λ ts x vs xs us h l. more_operands ts x vs xs us h l))
    (λ m ts le. enough (token.Sign sign.Comma) (behind sign.Comma) (behind_next sign.Comma) operand_at operand_at IsOperand operand_reader operand_nothing
    (length ts) (λ us l. refl) (length ts) m [] ts (le_refl (length ts)) le (le_refl (length ts)))

-- what a predicate says of its first operand
module _ (x : Operand) where
  abbrev Told : List Token → Condition → List Token → Type 0
  Told us c ws = (ts : List Token) → IsOperand ts x us → IsPredicate ts c ws

  null_reader : (b : Bool) → IsReader Condition (λ us. null_at x (b, us)) (λ us. Told (token.Keyword keyword.Is ∷ optional b keyword.Not us))
  unfolding null_at
  null_reader b =
      then_next (token.Keyword keyword.Null) (after keyword.Null) (next_keyword keyword.Null) (λ us. Told (token.Keyword keyword.Is ∷ optional b keyword.Not us))
      (λ us. Ok (tree.IsNull x b, us))
      (giving (tree.IsNull x b) (λ us. Told (token.Keyword keyword.Is ∷ optional b keyword.Not (token.Keyword keyword.Null ∷ us))) (λ ws ts h. is_null ts x b ws h))

  bounds_reader : (b : Bool) → IsReader Condition (bounds_at x b) (λ us. Told (optional b keyword.Not (token.Keyword keyword.Between ∷ us)))
  unfolding bounds_at
  bounds_reader b =
      bound operand_at IsOperand (λ low us. expect (after keyword.And us) us >>= λ u. operand_at u.1 >>= λ high. Ok (tree.Between x low high.0 b, high.1))
      (λ us. Told (optional b keyword.Not (token.Keyword keyword.Between ∷ us))) operand_reader
      (λ low. then_next (token.Keyword keyword.And) (after keyword.And) (next_keyword keyword.And)
      (λ us y ws. (vs : List Token) → IsOperand vs low us → Told (optional b keyword.Not (token.Keyword keyword.Between ∷ vs)) y ws)
      (λ us. operand_at us >>= λ high. Ok (tree.Between x low high.0 b, high.1))
      (bound operand_at IsOperand (λ high us. Ok (tree.Between x low high b, us))
      (λ us y ws. (vs : List Token) → IsOperand vs low (token.Keyword keyword.And ∷ us) → Told (optional b keyword.Not (token.Keyword keyword.Between ∷ vs)) y ws)
      operand_reader
      (λ high. giving (tree.Between x low high b)
      (λ us y ws. (rs : List Token) → IsOperand rs high us → (vs : List Token) → IsOperand vs low (token.Keyword keyword.And ∷ rs)
      → Told (optional b keyword.Not (token.Keyword keyword.Between ∷ vs)) y ws)
      (λ ws rs k vs h ts first. between ts x b vs low rs high ws first h k))))

  members_reader : (b : Bool) → IsReader Condition (members_at x b) (λ us. Told (optional b keyword.Not (token.Keyword keyword.In ∷ us)))
  unfolding members_at
  members_reader b =
      then_next (token.Sign sign.Open) (behind sign.Open) (next_sign sign.Open) (λ us. Told (optional b keyword.Not (token.Keyword keyword.In ∷ us)))
      (λ us. operands_at us >>= λ xs. expect (behind sign.Close xs.1) xs.1 >>= λ v. Ok (tree.In x xs.0 b, v.1))
      (bound operands_at IsOperands (λ xs us. expect (behind sign.Close us) us >>= λ v. Ok (tree.In x xs b, v.1))
      (λ us. Told (optional b keyword.Not (token.Keyword keyword.In ∷ token.Sign sign.Open ∷ us))) operands_reader
      (λ xs. then_next (token.Sign sign.Close) (behind sign.Close) (next_sign sign.Close)
      (λ us y ws. (vs : List Token) → IsOperands vs xs us → Told (optional b keyword.Not (token.Keyword keyword.In ∷ token.Sign sign.Open ∷ vs)) y ws)
      (λ us. Ok (tree.In x xs b, us))
      (giving (tree.In x xs b)
      (λ us y ws. (vs : List Token) → IsOperands vs xs (token.Sign sign.Close ∷ us)
      → Told (optional b keyword.Not (token.Keyword keyword.In ∷ token.Sign sign.Open ∷ vs)) y ws)
      (λ ws vs k ts first. among ts x b vs xs ws first k))))

  in_begins : (b : Bool) → Begins Condition (λ us. Told (optional b keyword.Not us)) []
  in_begins b = let m = (members_reader b).begins in (token.Keyword keyword.In ∷ m.0, m.1, m.2)

  range_reader : (b : Bool) → IsReader Condition (λ us. range_at x (b, us)) (λ us. Told (optional b keyword.Not us))
  unfolding range_at
  range_reader b =
      by_next (token.Keyword keyword.Between) (after keyword.Between) (next_keyword keyword.Between) (λ us. Told (optional b keyword.Not us))
      (λ us o. by_between x (b, us) o) (bounds_reader b)
      (by_next (token.Keyword keyword.In) (after keyword.In) (next_keyword keyword.In) (λ us. Told (optional b keyword.Not us)) (λ us o. by_in x (b, us) o)
      (members_reader b) (failing (λ us. Told (optional b keyword.Not us)) (in_begins b)))

  is_reader : IsReader Condition (λ us. by_is x us (after keyword.Is us)) Told
  is_reader =
      by_next (token.Keyword keyword.Is) (after keyword.Is) (next_keyword keyword.Is) Told (by_is x)
      (by_next (token.Keyword keyword.Not) (after keyword.Not) (next_keyword keyword.Not) (λ us. Told (token.Keyword keyword.Is ∷ us))
      (λ us o. null_at x (optionally o us)) (null_reader true) (null_reader false))
      (by_next (token.Keyword keyword.Not) (after keyword.Not) (next_keyword keyword.Not) Told (λ us o. range_at x (optionally o us)) (range_reader true)
      (range_reader false))

  compare_reader : (op : Comparison) → IsReader Condition (λ us. operand_at us >>= λ y. Ok (tree.Compare x op y.0, y.1)) (λ us. Told (token.Sign (sign_of op) ∷ us))
  compare_reader op =
      bound operand_at IsOperand (λ y us. Ok (tree.Compare x op y, us)) (λ us. Told (token.Sign (sign_of op) ∷ us)) operand_reader
      (λ y. giving (tree.Compare x op y) (λ us c ws. (vs : List Token) → IsOperand vs y us → Told (token.Sign (sign_of op) ∷ vs) c ws)
      (λ ws vs k ts first. compare ts x op vs y ws first k))

  told_reader : IsReader Condition (test_of x) Told
  unfolding test_of
  told_reader =
      branched (λ (op : Comparison). token.Sign (sign_of op)) (λ op us. Some (op, us)) None operator_at next_operator (by_operator x)
      (λ op us. Told (token.Sign (sign_of op) ∷ us)) Told compare_reader is_reader (λ op us y ws h. h)

pub predicate_reader : IsReader Condition predicate_at IsPredicate
unfolding predicate_at
predicate_reader = bound operand_at IsOperand test_of IsPredicate operand_reader told_reader

-- truth values
abbrev IsTruthAt : List Token → Truth → List Token → Type 0
IsTruthAt ts t us = ts ≡ token.Keyword (keyword_of_truth t) ∷ us

truth_begins : Begins Truth IsTruthAt []
truth_begins = (token.Keyword keyword.True ∷ [], truth.True, λ ws. refl)

truth_step : (ts : List Token) → IsStep Truth truth_at IsTruthAt ts (truth_at ts)
unfolding truth_at
truth_step [] = record {
  before = [];
  rest = [];
  parts = refl;
  many = refl;
  again = λ us follows. subst (λ (z : List Token). truth_at z ≡ Err (length z)) (sym follows) refl;
  begins = truth_begins;
}
truth_step (token.Keyword keyword.False ∷ ts) = record { taken = token.Keyword keyword.False ∷ []; parts = refl; again = λ us follows. refl; related = λ ws. refl }
truth_step (token.Keyword keyword.Unknown ∷ ts) = record { taken = token.Keyword keyword.Unknown ∷ []; parts = refl; again = λ us follows. refl; related = λ ws. refl }
truth_step (token.Keyword keyword.True ∷ ts) = record { taken = token.Keyword keyword.True ∷ []; parts = refl; again = λ us follows. refl; related = λ ws. refl }
truth_step (t ∷ ts) = record {
  before = [];
  rest = t ∷ ts;
  parts = refl;
  many = refl;
  again = λ us follows. subst (λ (z : List Token). truth_at z ≡ Err (length z)) (sym follows.1) refl;
  begins = truth_begins;
}

truth_reader : IsReader Truth truth_at IsTruthAt
truth_reader = record { step = truth_step; begins = truth_begins }

-- what stands behind a primary
module _ (c : Condition) where
  abbrev Tested : List Token → Condition → List Token → Type 0
  Tested us d ws = (ts : List Token) → IsPrimary ts c us → IsTest ts d ws

  truth_test_reader : (b : Bool) → IsReader Condition (λ us. truth_test_at c (b, us)) (λ us. Tested (token.Keyword keyword.Is ∷ optional b keyword.Not us))
  unfolding truth_test_at
  truth_test_reader b =
      bound truth_at IsTruthAt (λ t us. Ok (tree.Is c t b, us)) (λ us. Tested (token.Keyword keyword.Is ∷ optional b keyword.Not us)) truth_reader
      (λ t. giving (tree.Is c t b) (λ us d ws. (vs : List Token) → IsTruthAt vs t us → Tested (token.Keyword keyword.Is ∷ optional b keyword.Not vs) d ws)
      (λ ws vs e ts h. is_truth ts c t b ws (subst (λ (z : List Token). IsPrimary ts c (token.Keyword keyword.Is ∷ optional b keyword.Not z)) e h)))

  suffix_reader : IsReader Condition (suffix c) Tested
  unfolding suffix
  suffix_reader =
      by_next (token.Keyword keyword.Is) (after keyword.Is) (next_keyword keyword.Is) Tested (suffix_of c)
      (by_next (token.Keyword keyword.Not) (after keyword.Not) (next_keyword keyword.Not) (λ us. Tested (token.Keyword keyword.Is ∷ us))
      (λ us o. truth_test_at c (optionally o us)) (truth_test_reader true) (truth_test_reader false))
      (giving c Tested (λ ws ts h. plain ts c ws h))

-- A term stands for its factors, and a condition for its terms.
abbrev pub IsTerm : List Token → Condition → List Token → Type 0
IsTerm ts c us = (cs : List Condition) × (c ≡ all_of cs) × IsFactors ts cs us

abbrev pub IsCondition : List Token → Condition → List Token → Type 0
IsCondition ts c us = (cs : List Condition) × (c ≡ any_of cs) × IsTerms ts cs us

module _ (factor : List Token → Read Condition) (n : ℕ) (reads : IsReader Condition factor IsFactor) where
  factors_reader : IsReader (List Condition) (factors_with factor n) IsFactors
  factors_reader =
      separated_reader factor (token.Keyword keyword.And) (after keyword.And) (next_keyword keyword.And) IsFactor IsFactors reads last_factor
      (λ ts x vs xs us h l. and_factors ts x vs xs us h l) n

  term_reader : IsReader Condition (term_with factor n) IsTerm
  unfolding term_with
  term_reader =
      bound (factors_with factor n) IsFactors (λ cs us. Ok (all_of cs, us)) IsTerm factors_reader
      (λ cs. giving (all_of cs) (λ us c ws. (ts : List Token) → IsFactors ts cs us → IsTerm ts c ws) (λ ws ts h. (cs, refl, h)))

  terms_reader : IsReader (List Condition) (terms_with factor n) IsTerms
  terms_reader =
      separated_reader (term_with factor n) (token.Keyword keyword.Or) (after keyword.Or) (next_keyword keyword.Or) IsTerm IsTerms term_reader
      (λ ts x us h. subst (λ (z : Condition). IsTerms ts (z ∷ []) us) (sym h.1) (last_term ts h.0 us h.2))
      (λ ts x vs xs us h l. subst (λ (z : Condition). IsTerms ts (z ∷ xs) us) (sym h.1) (or_terms ts h.0 vs xs us h.2 l)) n

  condition_reader : IsReader Condition (cond_with factor n) IsCondition
  unfolding cond_with
  condition_reader =
      bound (terms_with factor n) IsTerms (λ cs us. Ok (any_of cs, us)) IsCondition terms_reader
      (λ cs. giving (any_of cs) (λ us c ws. (ts : List Token) → IsTerms ts cs us → IsCondition ts c ws) (λ ws ts h. (cs, refl, h)))

  group_reader : IsReader Condition (group_with factor n) (λ us. IsPrimary (token.Sign sign.Open ∷ us))
  unfolding group_with
  group_reader =
      bound (cond_with factor n) IsCondition (λ c us. closed c us) (λ us. IsPrimary (token.Sign sign.Open ∷ us)) condition_reader
      (λ c. then_next (token.Sign sign.Close) (behind sign.Close) (next_sign sign.Close)
      (λ us d ws. (ts : List Token) → IsCondition ts c us → IsPrimary (token.Sign sign.Open ∷ ts) d ws) (λ us. Ok (c, us))
      (giving c (λ us d ws. (ts : List Token) → IsCondition ts c (token.Sign sign.Close ∷ us) → IsPrimary (token.Sign sign.Open ∷ ts) d ws)
      (λ ws ts h. subst (λ (z : Condition). IsPrimary (token.Sign sign.Open ∷ ts) z ws) (sym h.1) (group ts h.0 ws h.2))))

  primary_reader : IsReader Condition (primary_with factor n) IsPrimary
  unfolding primary_with
  primary_reader =
      by_next (token.Sign sign.Open) (behind sign.Open) (next_sign sign.Open) IsPrimary (primary_of factor n) group_reader
      (weaker predicate_at IsPredicate IsPrimary predicate_reader (λ ts c us h. predicate ts c us h))

  test_reader : IsReader Condition (test_with factor n) IsTest
  unfolding test_with
  test_reader = bound (primary_with factor n) IsPrimary suffix IsTest primary_reader suffix_reader

  factor_by : IsReader Condition (λ ts. factor_of factor n ts (after keyword.Not ts)) IsFactor
  factor_by =
      by_next (token.Keyword keyword.Not) (after keyword.Not) (next_keyword keyword.Not) IsFactor (factor_of factor n)
      (bound factor IsFactor (λ c us. Ok (tree.Not c, us)) (λ us. IsFactor (token.Keyword keyword.Not ∷ us)) reads
      (λ c. giving (tree.Not c) (λ us d ws. (ts : List Token) → IsFactor ts c us → IsFactor (token.Keyword keyword.Not ∷ ts) d ws) (λ ws ts h. not ts c ws h)))
      (weaker (test_with factor n) IsTest IsFactor test_reader (λ ts c us h. test ts c us h))

factor_begins : Begins Condition IsFactor []
factor_begins =
    let b = predicate_reader.begins in
    (b.0, b.1, λ ws. test (b.0 ++ ws) b.1 ws (plain (b.0 ++ ws) b.1 ws (predicate (b.0 ++ ws) b.1 ws (b.2 ws))))

factor_reader : (n : ℕ) → IsReader Condition (factor_at n) IsFactor
unfolding factor_at
factor_reader zero = failing IsFactor factor_begins
factor_reader (suc n) = factor_by (factor_at n) n (factor_reader n)

-- How many turns and levels there may be makes no difference where they are as many as the tokens.
module _ (n m k : ℕ) (same : (ts : List Token) → length ts ≤ k → factor_at n ts ≡ factor_at m ts) (nothing : factor_at m [] ≡ Err 0) (low : k ≤ n) (high : k ≤ m) where
  factors_same : (ts : List Token) → length ts ≤ k → factors_at n ts ≡ factors_at m ts
  factors_same ts l =
      enough (token.Keyword keyword.And) (after keyword.And) (after_next keyword.And) (factor_at n) (factor_at m) IsFactor (factor_reader m) nothing k same n m [] ts
      (omega arith) (omega arith) l

  term_same : (ts : List Token) → length ts ≤ k → term_at n ts ≡ term_at m ts
  unfolding term_with
  term_same ts l = ap (λ (r : Read (List Condition)). r >>= λ x. Ok (all_of x.0, x.1)) (factors_same ts l)

  -- a list of items begins with one
  term_nothing : term_at m [] ≡ Err 0
  unfolding term_with
  term_nothing =
      ap (λ (r : Read (List Condition)). r >>= λ x. Ok (all_of x.0, x.1)) (separated_nothing (factor_at m) (after keyword.And) nothing m)

  terms_same : (ts : List Token) → length ts ≤ k → terms_at n ts ≡ terms_at m ts
  terms_same ts l =
      enough (token.Keyword keyword.Or) (after keyword.Or) (after_next keyword.Or) (term_at n) (term_at m) IsTerm (term_reader (factor_at m) m (factor_reader m))
      term_nothing k term_same n m [] ts (omega arith) (omega arith) l

  cond_same : (ts : List Token) → length ts ≤ k → cond_at n ts ≡ cond_at m ts
  unfolding cond_with
  cond_same ts l = ap (λ (r : Read (List Condition)). r >>= λ x. Ok (any_of x.0, x.1)) (terms_same ts l)

  primary_same : (ts : List Token) (o : Option (List Token)) → behind sign.Open ts ≡ o → length ts ≤ suc k
      → primary_of (factor_at n) n ts o ≡ primary_of (factor_at m) m ts o
  unfolding group_with
  primary_same ts (Some us) e l =
      let gone = ap length (behind_next sign.Open ts us e) in
      ap (λ (r : Read Condition). r >>= λ x. closed x.0 x.1) (cond_same us (omega (arith, gone)))
  primary_same ts None e l = refl

  factor_by_same : (ts : List Token) (o : Option (List Token)) → after keyword.Not ts ≡ o → length ts ≤ suc k
      → factor_of (factor_at n) n ts o ≡ factor_of (factor_at m) m ts o
  unfolding test_with primary_with
  factor_by_same ts (Some us) e l =
      let gone = ap length (after_next keyword.Not ts us e) in
      ap negated (same us (omega (arith, gone)))
  factor_by_same ts None e l = ap (λ (r : Read Condition). r >>= λ x. suffix x.0 x.1) (primary_same ts (behind sign.Open ts) refl l)

factor_nothing : (n : ℕ) → factor_at n [] ≡ Err 0
unfolding factor_at after test_with primary_with behind predicate_at operand_at column_at name_at
factor_nothing zero = refl
factor_nothing (suc n) = refl

nothing_within : (n : ℕ) (ts : List Token) → length ts ≤ 0 → factor_at n ts ≡ Err (length ts)
nothing_within n [] l = factor_nothing n
nothing_within n (t ∷ ts) l = absurd (omega arith)

-- as many tokens as there may be turns in both
factor_same : (n m k : ℕ) → k ≤ n → k ≤ m → (ts : List Token) → length ts ≤ k → factor_at n ts ≡ factor_at m ts
unfolding factor_at
factor_same n m zero p q ts l = nothing_within n ts l ∙ sym (nothing_within m ts l)
factor_same zero m (suc k) p q ts l = absurd (omega arith)
factor_same (suc n) zero (suc k) p q ts l = absurd (omega arith)
factor_same (suc n) (suc m) (suc k) p q ts l =
    factor_by_same n m k (factor_same n m k (omega arith) (omega arith)) (factor_nothing m) (omega arith) (omega arith) ts (after keyword.Not ts) refl l

pub cond_reader : IsReader Condition (λ ts. cond_at (length ts) ts) IsCondition
cond_reader =
    fueled (λ ts. cond_at (length ts) ts) cond_at IsCondition (λ n. condition_reader (factor_at n) n (factor_reader n))
    (λ n ts l. cond_same (length ts) n (length ts) (factor_same (length ts) n (length ts) (le_refl (length ts)) l) (factor_nothing n) (le_refl (length ts)) l ts
    (le_refl (length ts)))
