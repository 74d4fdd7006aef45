-- The grammar of a join clause: which tokens derive which tree (SQL-92, 7.5, 8.2, 8.3, 8.4, 8.6, 8.12).
--     clause    = CROSS JOIN | NATURAL join | join ON cond | join USING ( name {, name} )
--     join      = [INNER] JOIN | (LEFT | RIGHT | FULL) [OUTER] JOIN
--     cond      = term {OR term}
--     term      = factor {AND factor}
--     factor    = NOT factor | test
--     test      = primary [IS [NOT] truth]
--     primary   = ( cond ) | predicate
--     predicate = operand op operand | operand IS [NOT] NULL | operand [NOT] BETWEEN operand AND operand
--               | operand [NOT] IN ( operand {, operand} )
--     operand   = column | integer | decimal | text
--     column    = name | name . name
-- `IsX ts x us`: ts are the tokens of x, and then us.
use Rattle.std.specs.Prelude.{ℤ, ℕ, List, [], ◌∷◌, Some, None, Bool, true, false}
use Rattle.rj_condition.specs.declared.decimal.DecimalLiteral.{DecimalLiteral}
use Rattle.rj_condition.specs.declared.token.Keyword.{Keyword}
use Rattle.rj_condition.specs.declared.token.Keyword.TheVariants as keyword
use Rattle.rj_condition.specs.declared.token.Sign.{Sign}
use Rattle.rj_condition.specs.declared.token.Sign.TheVariants as sign
use Rattle.rj_condition.specs.declared.token.Token.{Token}
use Rattle.rj_condition.specs.declared.token.Token.TheVariants as token
use Rattle.rj_condition.specs.declared.truth.Truth.{Truth}
use Rattle.rj_condition.specs.declared.truth.Truth.TheVariants as truth
use Rattle.rj_condition.specs.declared.tree.Name.{Name}
use Rattle.rj_condition.specs.declared.tree.ColumnName.{ColumnName}
use Rattle.rj_condition.specs.declared.tree.Literal.TheVariants as literal
use Rattle.rj_condition.specs.declared.tree.Operand.{Operand}
use Rattle.rj_condition.specs.declared.tree.Operand.TheVariants as operand
use Rattle.rj_condition.specs.declared.tree.Comparison.{Comparison}
use Rattle.rj_condition.specs.declared.tree.Comparison.TheVariants as comparison
use Rattle.rj_condition.specs.declared.tree.JoinKind.{JoinKind}
use Rattle.rj_condition.specs.declared.tree.JoinKind.TheVariants as kind
use Rattle.rj_condition.specs.declared.tree.Condition.{Condition}
use Rattle.rj_condition.specs.declared.tree.Condition.TheVariants as tree
use Rattle.rj_condition.specs.declared.tree.Clause.{Clause}
use Rattle.rj_condition.specs.declared.tree.Clause.TheVariants as clause

-- the tokens, after the keyword if it is there
abbrev pub optional : Bool → Keyword → List Token → List Token
optional true k ts = token.Keyword k ∷ ts
optional false k ts = ts

abbrev pub plain_column : Name → ColumnName
plain_column n = record { qualifier = None; name = n }

abbrev pub qualified_column : Name → Name → ColumnName
qualified_column q n = record { qualifier = Some q; name = n }

pub data IsOperand : List Token → Operand → List Token → Type 0 where
  plain_name : (n : Name) (us : List Token) → IsOperand (token.Name n ∷ us) (operand.Column (plain_column n)) us
  qualified_name : (q n : Name) (us : List Token)
      → IsOperand (token.Name q ∷ token.Sign sign.Point ∷ token.Name n ∷ us) (operand.Column (qualified_column q n)) us
  integer : (z : ℤ) (us : List Token) → IsOperand (token.Integer z ∷ us) (operand.Literal (literal.Integer z)) us
  decimal : (d : DecimalLiteral) (us : List Token) → IsOperand (token.Decimal d ∷ us) (operand.Literal (literal.Decimal d)) us
  text : (w : List ℕ) (us : List Token) → IsOperand (token.Text w ∷ us) (operand.Literal (literal.Text w)) us

-- one operand or more, with commas between
pub data IsOperands : List Token → List Operand → List Token → Type 0 where
  last_operand : (ts : List Token) (x : Operand) (us : List Token) → IsOperand ts x us → IsOperands ts (x ∷ []) us
  more_operands : (ts : List Token) (x : Operand) (vs : List Token) (xs : List Operand) (us : List Token) →
      IsOperand ts x (token.Sign sign.Comma ∷ vs) → IsOperands vs xs us → IsOperands ts (x ∷ xs) us

-- one name or more, with commas between
pub data IsNames : List Token → List Name → List Token → Type 0 where
  last_name : (n : Name) (us : List Token) → IsNames (token.Name n ∷ us) (n ∷ []) us
  more_names : (n : Name) (vs : List Token) (ns : List Name) (us : List Token) → IsNames vs ns us
      → IsNames (token.Name n ∷ token.Sign sign.Comma ∷ vs) (n ∷ ns) us

abbrev pub sign_of : Comparison → Sign
sign_of comparison.Equal = sign.Equal
sign_of comparison.NotEqual = sign.NotEqual
sign_of comparison.Less = sign.Less
sign_of comparison.Greater = sign.Greater
sign_of comparison.LessOrEqual = sign.LessOrEqual
sign_of comparison.GreaterOrEqual = sign.GreaterOrEqual

abbrev pub keyword_of_truth : Truth → Keyword
keyword_of_truth truth.False = keyword.False
keyword_of_truth truth.Unknown = keyword.Unknown
keyword_of_truth truth.True = keyword.True

pub data IsPredicate : List Token → Condition → List Token → Type 0 where
  compare : (ts : List Token) (x : Operand) (op : Comparison) (vs : List Token) (y : Operand) (us : List Token) →
      IsOperand ts x (token.Sign (sign_of op) ∷ vs) → IsOperand vs y us → IsPredicate ts (tree.Compare x op y) us
  is_null : (ts : List Token) (x : Operand) (negated : Bool) (us : List Token) →
      IsOperand ts x (token.Keyword keyword.Is ∷ optional negated keyword.Not (token.Keyword keyword.Null ∷ us)) → IsPredicate ts (tree.IsNull x negated) us
  between : (ts : List Token) (x : Operand) (negated : Bool) (vs : List Token) (low : Operand) (ws : List Token) (high : Operand) (us : List Token) →
      IsOperand ts x (optional negated keyword.Not (token.Keyword keyword.Between ∷ vs)) → IsOperand vs low (token.Keyword keyword.And ∷ ws)
      → IsOperand ws high us →
      IsPredicate ts (tree.Between x low high negated) us
  among : (ts : List Token) (x : Operand) (negated : Bool) (vs : List Token) (xs : List Operand) (us : List Token) →
      IsOperand ts x (optional negated keyword.Not (token.Keyword keyword.In ∷ token.Sign sign.Open ∷ vs)) → IsOperands vs xs (token.Sign sign.Close ∷ us) →
      IsPredicate ts (tree.In x xs negated) us

-- a single part is itself
abbrev pub any_of : List Condition → Condition
any_of (c ∷ []) = c
any_of cs = tree.Any cs

abbrev pub all_of : List Condition → Condition
all_of (c ∷ []) = c
all_of cs = tree.All cs

mutual
  pub data IsFactor : List Token → Condition → List Token → Type 0 where
    not : (ts : List Token) (c : Condition) (us : List Token) → IsFactor ts c us → IsFactor (token.Keyword keyword.Not ∷ ts) (tree.Not c) us
    test : (ts : List Token) (c : Condition) (us : List Token) → IsTest ts c us → IsFactor ts c us

  pub data IsTest : List Token → Condition → List Token → Type 0 where
    plain : (ts : List Token) (c : Condition) (us : List Token) → IsPrimary ts c us → IsTest ts c us
    is_truth : (ts : List Token) (c : Condition) (t : Truth) (negated : Bool) (us : List Token) →
        IsPrimary ts c (token.Keyword keyword.Is ∷ optional negated keyword.Not (token.Keyword (keyword_of_truth t) ∷ us)) → IsTest ts (tree.Is c t negated) us

  pub data IsPrimary : List Token → Condition → List Token → Type 0 where
    predicate : (ts : List Token) (c : Condition) (us : List Token) → IsPredicate ts c us → IsPrimary ts c us
    group : (ts : List Token) (cs : List Condition) (us : List Token) → IsTerms ts cs (token.Sign sign.Close ∷ us)
        → IsPrimary (token.Sign sign.Open ∷ ts) (any_of cs) us

  -- the factors of a term
  pub data IsFactors : List Token → List Condition → List Token → Type 0 where
    last_factor : (ts : List Token) (c : Condition) (us : List Token) → IsFactor ts c us → IsFactors ts (c ∷ []) us
    and_factors : (ts : List Token) (c : Condition) (vs : List Token) (cs : List Condition) (us : List Token) →
        IsFactor ts c (token.Keyword keyword.And ∷ vs) → IsFactors vs cs us → IsFactors ts (c ∷ cs) us

  -- the terms of a condition
  pub data IsTerms : List Token → List Condition → List Token → Type 0 where
    last_term : (ts : List Token) (cs : List Condition) (us : List Token) → IsFactors ts cs us → IsTerms ts (all_of cs ∷ []) us
    or_terms : (ts : List Token) (cs : List Condition) (vs : List Token) (ds : List Condition) (us : List Token) →
        IsFactors ts cs (token.Keyword keyword.Or ∷ vs) → IsTerms vs ds us → IsTerms ts (all_of cs ∷ ds) us

-- no type means INNER
pub data IsJoin : List Token → JoinKind → List Token → Type 0 where
  inner : (stated : Bool) (us : List Token) → IsJoin (optional stated keyword.Inner (token.Keyword keyword.Join ∷ us)) kind.Inner us
  left : (outer : Bool) (us : List Token) → IsJoin (token.Keyword keyword.Left ∷ optional outer keyword.Outer (token.Keyword keyword.Join ∷ us)) kind.Left us
  right : (outer : Bool) (us : List Token) → IsJoin (token.Keyword keyword.Right ∷ optional outer keyword.Outer (token.Keyword keyword.Join ∷ us)) kind.Right us
  full : (outer : Bool) (us : List Token) → IsJoin (token.Keyword keyword.Full ∷ optional outer keyword.Outer (token.Keyword keyword.Join ∷ us)) kind.Full us

-- all the tokens are those of the clause
pub data Derives : List Token → Clause → Type 0 where
  cross : Derives (token.Keyword keyword.Cross ∷ token.Keyword keyword.Join ∷ []) clause.Cross
  natural : (ts : List Token) (k : JoinKind) → IsJoin ts k [] → Derives (token.Keyword keyword.Natural ∷ ts) (clause.Natural k)
  on : (ts : List Token) (k : JoinKind) (vs : List Token) (cs : List Condition) → IsJoin ts k (token.Keyword keyword.On ∷ vs) → IsTerms vs cs []
      → Derives ts (clause.On k (any_of cs))
  using : (ts : List Token) (k : JoinKind) (vs : List Token) (ns : List Name) →
      IsJoin ts k (token.Keyword keyword.Using ∷ token.Sign sign.Open ∷ vs) → IsNames vs ns (token.Sign sign.Close ∷ []) → Derives ts (clause.Using k ns)
