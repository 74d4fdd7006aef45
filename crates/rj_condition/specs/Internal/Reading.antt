-- The reader's functions, on lists of tokens. Internal: among public contracts only that of
-- `first_mismatch` uses `predicate_at`.
use Rattle.std.specs.Prelude.{◌≡◌, ℕ, zero, suc, List, [], ◌∷◌, ◌++◌, length, Option, Some, None, option_map, Result, Ok, Err, Bool, true, false, if◌then◌else◌}
use Rattle.std.specs.Borrow.{Bor}
use Rattle.std.specs.Str.{bytes_eq}
use Rattle.rj_condition.specs.declared.token.Keyword.{Keyword}
use Rattle.rj_condition.specs.declared.token.Keyword.TheVariants as keyword
use Rattle.rj_condition.specs.declared.token.Sign.{Sign}
use Rattle.rj_condition.specs.declared.token.Sign.TheVariants as sign
use Rattle.rj_condition.specs.declared.token.Token.{Token}
use Rattle.rj_condition.specs.declared.token.Token.TheVariants as token
use Rattle.rj_condition.specs.declared.truth.Truth.{Truth}
use Rattle.rj_condition.specs.declared.truth.Truth.TheVariants as truth
use Rattle.rj_condition.specs.declared.tree.Name.{Name}
use Rattle.rj_condition.specs.declared.tree.Literal.TheVariants as literal
use Rattle.rj_condition.specs.declared.tree.Operand.{Operand}
use Rattle.rj_condition.specs.declared.tree.Operand.TheVariants as operand
use Rattle.rj_condition.specs.declared.tree.Comparison.{Comparison}
use Rattle.rj_condition.specs.declared.tree.Comparison.TheVariants as comparison
use Rattle.rj_condition.specs.declared.tree.JoinKind.{JoinKind}
use Rattle.rj_condition.specs.declared.tree.JoinKind.TheVariants as kind
use Rattle.rj_condition.specs.declared.tree.Condition.{Condition}
use Rattle.rj_condition.specs.declared.tree.Condition.TheVariants as tree
use Rattle.rj_condition.specs.declared.tree.Clause.{Clause}
use Rattle.rj_condition.specs.declared.tree.Clause.TheVariants as clause
use Rattle.rj_condition.specs.declared.stop.Stop.{Stop}
use Rattle.rj_condition.specs.declared.stop.Stop.TheVariants as stop
use Rattle.rj_condition.specs.Tokens.{spelling_of, sign_text}
use Rattle.rj_condition.specs.Grammar.{plain_column, qualified_column}
use Rattle.rj_condition.specs.Grammar as grammar

abbrev pub any_of : List Condition → Condition
any_of = grammar.any_of

abbrev pub all_of : List Condition → Condition
all_of = grammar.all_of

-- a value and the tokens after it, or how many tokens are left where reading stops
abbrev pub Read : Type 0 → Type 0
Read A = Result (A × List Token) ℕ

infixl 10 ◌>>=◌
abbrev pub ◌>>=◌ : {A B : Type 0} → Result A ℕ → (A → Result B ℕ) → Result B ℕ
(Ok x) >>= f = f x
(Err left) >>= f = Err left

-- What a function returned is what reading gives, unless memory ran out.
abbrev pub Fails : {A : Type 0} → Stop → Result A ℕ → Type 0
Fails stop.Memory read = Unit {0}
Fails (stop.Syntax left) read = read ≡ Err left

abbrev pub Gives : {A : Type 0} → Result (A × Bor (List Token)) Stop → Read A → Type 0
Gives (Ok x) read = read ≡ Ok (x.0, x.1.now)
Gives (Err e) read = Fails e read

abbrev pub GivesWhole : Result Clause Stop → Read Clause → Type 0
GivesWhole (Ok c) read = read ≡ Ok (c, [])
GivesWhole (Err e) read = Fails e read

-- what a function found
abbrev pub rest_view : Option (Bor (List Token)) → Option (List Token)
rest_view (Some ts) = Some ts.now
rest_view None = None

abbrev pub view : {A : Type 0} → Option (A × Bor (List Token)) → Option (A × List Token)
view (Some x) = Some (x.0, x.1.now)
view None = None

-- the tokens after a keyword, and after a sign, if it comes next
abbrev pub same_keyword : Keyword → Keyword → Bool
same_keyword j k = bytes_eq (spelling_of j) (spelling_of k)

abbrev pub same_sign : Sign → Sign → Bool
same_sign r s = bytes_eq (sign_text r) (sign_text s)

unfoldable pub after : Keyword → List Token → Option (List Token)
after k (token.Keyword j ∷ ts) = if same_keyword j k then Some ts else None
after k _ = None

unfoldable pub behind : Sign → List Token → Option (List Token)
behind s (token.Sign r ∷ ts) = if same_sign r s then Some ts else None
behind s _ = None

-- the tokens after what has to come next
abbrev pub expect : Option (List Token) → List Token → Read (Unit {0})
expect (Some us) ts = Ok (tt, us)
expect None ts = Err (length ts)

-- a value, if its parenthesis is closed
abbrev pub closed : {A : Type 0} → A → List Token → Read A
closed x ts = expect (behind sign.Close ts) ts >>= λ u. Ok (x, u.1)

-- whether it came next, and the tokens after it
abbrev pub optionally : Option (List Token) → List Token → Bool × List Token
optionally (Some us) ts = (true, us)
optionally None ts = (false, ts)

abbrev pub opt : Keyword → List Token → Bool × List Token
opt k ts = optionally (after k ts) ts

unfoldable pub name_at : List Token → Read Name
name_at (token.Name n ∷ ts) = Ok (n, ts)
name_at ts = Err (length ts)

abbrev pub column_of : Name → List Token → Option (List Token) → Read Operand
column_of n us (Some vs) = name_at vs >>= λ m. Ok (operand.Column (qualified_column n m.0), m.1)
column_of n us None = Ok (operand.Column (plain_column n), us)

unfoldable pub column_at : List Token → Read Operand
column_at ts = name_at ts >>= λ n. column_of n.0 n.1 (behind sign.Point n.1)

unfoldable pub operand_at : List Token → Read Operand
operand_at (token.Integer z ∷ ts) = Ok (operand.Literal (literal.Integer z), ts)
operand_at (token.Decimal d ∷ ts) = Ok (operand.Literal (literal.Decimal d), ts)
operand_at (token.Text w ∷ ts) = Ok (operand.Literal (literal.Text w), ts)
operand_at ts = column_at ts

-- goes on after the separator, if it comes next
abbrev pub go_on : {A : Type 0} → Option (List Token) → Read A → (List Token → Read A) → Read A
go_on None stop go = stop
go_on (Some ts) stop go = go ts

-- one or more, with separators between
unfoldable pub separated : {A : Type 0} → (List Token → Read A) → (List Token → Option (List Token)) → ℕ → List A → List Token → Read (List A)
separated item next zero found ts = Err (length ts)
separated item next (suc n) found ts =
    item ts >>= λ x. go_on (next x.1) (Ok (found ++ x.0 ∷ [], x.1)) (λ us. separated item next n (found ++ x.0 ∷ []) us)

unfoldable pub operands_at : List Token → Read (List Operand)
operands_at ts = separated operand_at (behind sign.Comma) (length ts) [] ts

unfoldable pub names_at : List Token → Read (List Name)
names_at ts = separated name_at (behind sign.Comma) (length ts) [] ts

abbrev pub comparison_of : Sign → Option Comparison
comparison_of sign.Equal = Some comparison.Equal
comparison_of sign.NotEqual = Some comparison.NotEqual
comparison_of sign.Less = Some comparison.Less
comparison_of sign.Greater = Some comparison.Greater
comparison_of sign.LessOrEqual = Some comparison.LessOrEqual
comparison_of sign.GreaterOrEqual = Some comparison.GreaterOrEqual
comparison_of sign.Open = None
comparison_of sign.Close = None
comparison_of sign.Comma = None
comparison_of sign.Point = None

unfoldable pub operator_at : List Token → Option (Comparison × List Token)
operator_at (token.Sign s ∷ ts) = option_map (λ op. (op, ts)) (comparison_of s)
operator_at _ = None

unfoldable pub null_at : Operand → Bool × List Token → Read Condition
null_at x n = expect (after keyword.Null n.1) n.1 >>= λ u. Ok (tree.IsNull x n.0, u.1)

unfoldable pub bounds_at : Operand → Bool → List Token → Read Condition
bounds_at x negated ts =
    operand_at ts >>= λ low. expect (after keyword.And low.1) low.1 >>= λ u. operand_at u.1 >>= λ high. Ok (tree.Between x low.0 high.0 negated, high.1)

unfoldable pub members_at : Operand → Bool → List Token → Read Condition
members_at x negated ts =
    expect (behind sign.Open ts) ts >>= λ u. operands_at u.1 >>= λ xs. expect (behind sign.Close xs.1) xs.1 >>= λ v. Ok (tree.In x xs.0 negated, v.1)

abbrev pub by_in : Operand → Bool × List Token → Option (List Token) → Read Condition
by_in x n (Some vs) = members_at x n.0 vs
by_in x n None = Err (length n.1)

abbrev pub by_between : Operand → Bool × List Token → Option (List Token) → Read Condition
by_between x n (Some vs) = bounds_at x n.0 vs
by_between x n None = by_in x n (after keyword.In n.1)

unfoldable pub range_at : Operand → Bool × List Token → Read Condition
range_at x n = by_between x n (after keyword.Between n.1)

abbrev pub by_is : Operand → List Token → Option (List Token) → Read Condition
by_is x us (Some vs) = null_at x (opt keyword.Not vs)
by_is x us None = range_at x (opt keyword.Not us)

abbrev pub by_operator : Operand → List Token → Option (Comparison × List Token) → Read Condition
by_operator x us (Some op) = operand_at op.1 >>= λ y. Ok (tree.Compare x op.0 y.0, y.1)
by_operator x us None = by_is x us (after keyword.Is us)

unfoldable pub test_of : Operand → List Token → Read Condition
test_of x us = by_operator x us (operator_at us)

unfoldable pub predicate_at : List Token → Read Condition
predicate_at ts = operand_at ts >>= λ x. test_of x.0 x.1

-- conditions; the number bounds the turns and the nesting
abbrev pub factors_with : (List Token → Read Condition) → ℕ → List Token → Read (List Condition)
factors_with factor n ts = separated factor (after keyword.And) n [] ts

unfoldable pub term_with : (List Token → Read Condition) → ℕ → List Token → Read Condition
term_with factor n ts = factors_with factor n ts >>= λ x. Ok (all_of x.0, x.1)

abbrev pub terms_with : (List Token → Read Condition) → ℕ → List Token → Read (List Condition)
terms_with factor n ts = separated (term_with factor n) (after keyword.Or) n [] ts

unfoldable pub cond_with : (List Token → Read Condition) → ℕ → List Token → Read Condition
cond_with factor n ts = terms_with factor n ts >>= λ x. Ok (any_of x.0, x.1)

unfoldable pub group_with : (List Token → Read Condition) → ℕ → List Token → Read Condition
group_with factor n ts = cond_with factor n ts >>= λ x. closed x.0 x.1

abbrev pub truth_of : Keyword → Option Truth
truth_of keyword.False = Some truth.False
truth_of keyword.Unknown = Some truth.Unknown
truth_of keyword.True = Some truth.True
truth_of _ = None

abbrev pub truth_or : Option Truth → List Token → List Token → Read Truth
truth_or (Some t) us ts = Ok (t, us)
truth_or None us ts = Err (length ts)

unfoldable pub truth_at : List Token → Read Truth
truth_at (token.Keyword k ∷ ts) = truth_or (truth_of k) ts (token.Keyword k ∷ ts)
truth_at ts = Err (length ts)

unfoldable pub truth_test_at : Condition → Bool × List Token → Read Condition
truth_test_at c n = truth_at n.1 >>= λ t. Ok (tree.Is c t.0 n.0, t.1)

abbrev pub suffix_of : Condition → List Token → Option (List Token) → Read Condition
suffix_of c us (Some vs) = truth_test_at c (opt keyword.Not vs)
suffix_of c us None = Ok (c, us)

-- what comes after a primary
unfoldable pub suffix : Condition → List Token → Read Condition
suffix c us = suffix_of c us (after keyword.Is us)

abbrev pub primary_of : (List Token → Read Condition) → ℕ → List Token → Option (List Token) → Read Condition
primary_of factor n ts (Some us) = group_with factor n us
primary_of factor n ts None = predicate_at ts

unfoldable pub primary_with : (List Token → Read Condition) → ℕ → List Token → Read Condition
primary_with factor n ts = primary_of factor n ts (behind sign.Open ts)

unfoldable pub test_with : (List Token → Read Condition) → ℕ → List Token → Read Condition
test_with factor n ts = primary_with factor n ts >>= λ x. suffix x.0 x.1

abbrev pub negated : Read Condition → Read Condition
negated r = r >>= λ x. Ok (tree.Not x.0, x.1)

abbrev pub factor_of : (List Token → Read Condition) → ℕ → List Token → Option (List Token) → Read Condition
factor_of factor n ts (Some us) = negated (factor us)
factor_of factor n ts None = test_with factor n ts

unfoldable pub factor_at : ℕ → List Token → Read Condition
factor_at zero ts = Err (length ts)
factor_at (suc n) ts = factor_of (factor_at n) n ts (after keyword.Not ts)

abbrev pub factors_at : ℕ → List Token → Read (List Condition)
factors_at n = factors_with (factor_at n) n

abbrev pub term_at : ℕ → List Token → Read Condition
term_at n = term_with (factor_at n) n

abbrev pub terms_at : ℕ → List Token → Read (List Condition)
terms_at n = terms_with (factor_at n) n

abbrev pub cond_at : ℕ → List Token → Read Condition
cond_at n = cond_with (factor_at n) n

abbrev pub group_at : ℕ → List Token → Read Condition
group_at n = group_with (factor_at n) n

abbrev pub primary_at : ℕ → List Token → Read Condition
primary_at n = primary_with (factor_at n) n

abbrev pub test_at : ℕ → List Token → Read Condition
test_at n = test_with (factor_at n) n

-- the type of a join
abbrev pub by_full : List Token → Option (List Token) → JoinKind × List Token
by_full ts (Some us) = (kind.Full, (opt keyword.Outer us).1)
by_full ts None = (kind.Inner, ts)

abbrev pub by_right : List Token → Option (List Token) → JoinKind × List Token
by_right ts (Some us) = (kind.Right, (opt keyword.Outer us).1)
by_right ts None = by_full ts (after keyword.Full ts)

abbrev pub by_left : List Token → Option (List Token) → JoinKind × List Token
by_left ts (Some us) = (kind.Left, (opt keyword.Outer us).1)
by_left ts None = by_right ts (after keyword.Right ts)

abbrev pub by_inner : List Token → Option (List Token) → JoinKind × List Token
by_inner ts (Some us) = (kind.Inner, us)
by_inner ts None = by_left ts (after keyword.Left ts)

unfoldable pub kind_at : List Token → JoinKind × List Token
kind_at ts = by_inner ts (after keyword.Inner ts)

-- a type of a join, if JOIN comes after it
abbrev pub joined : JoinKind × List Token → Read JoinKind
joined p = expect (after keyword.Join p.1) p.1 >>= λ u. Ok (p.0, u.1)

unfoldable pub join_at : List Token → Read JoinKind
join_at ts = joined (kind_at ts)

-- nothing may be left
abbrev pub ended : {A : Type 0} → A → List Token → Read A
ended x [] = Ok (x, [])
ended x (t ∷ ts) = Err (length (t ∷ ts))

unfoldable pub cross_at : List Token → Read Clause
cross_at ts = expect (after keyword.Join ts) ts >>= λ u. ended clause.Cross u.1

unfoldable pub natural_at : List Token → Read Clause
natural_at ts = join_at ts >>= λ k. ended (clause.Natural k.0) k.1

unfoldable pub on_at : JoinKind → List Token → Read Clause
on_at k ts = cond_at (length ts) ts >>= λ c. ended (clause.On k c.0) c.1

unfoldable pub using_at : JoinKind → List Token → Read Clause
using_at k ts =
    expect (after keyword.Using ts) ts >>= λ u. expect (behind sign.Open u.1) u.1 >>= λ v. names_at v.1 >>= λ ns. expect (behind sign.Close ns.1) ns.1 >>= λ w.
    ended (clause.Using k ns.0) w.1

abbrev pub by_on : JoinKind → List Token → Option (List Token) → Read Clause
by_on k ts (Some us) = on_at k us
by_on k ts None = using_at k ts

unfoldable pub qualified_at : List Token → Read Clause
qualified_at ts = join_at ts >>= λ k. by_on k.0 k.1 (after keyword.On k.1)

abbrev pub by_natural : List Token → Option (List Token) → Read Clause
by_natural ts (Some us) = natural_at us
by_natural ts None = qualified_at ts

abbrev pub by_cross : List Token → Option (List Token) → Read Clause
by_cross ts (Some us) = cross_at us
by_cross ts None = by_natural ts (after keyword.Natural ts)

unfoldable pub clause_at : List Token → Read Clause
clause_at ts = by_cross ts (after keyword.Cross ts)
