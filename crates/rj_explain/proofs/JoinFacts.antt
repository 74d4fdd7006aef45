-- A clause asks for one join of two tables, whose columns are written under one list of names.
use Rattle.std.proofs.Common.{◌≡◌, ◌∙◌, List, ℕ, ap, map, sym}
use Rattle.std.specs.Prelude.{IsErr, MatchOption, None, Ok, Option, Result, Some, string_bytes}
use Rattle.std.specs.declared.alloc.Global.{Global}
use Rattle.std.specs.declared.string.String.{String}
use Rattle.std.specs.declared.vec.Vec.{Vec}
use Rattle.rj_columns.specs.Tables.{TableValue}
use Rattle.rj_condition.specs.Bound.{bound}
use Rattle.rj_condition.specs.Clauses.{HasClause}
use Rattle.rj_condition.specs.declared.bound.BoundJoin.{BoundJoin}
use Rattle.rj_condition.specs.declared.tree.Clause.{Clause}
use Rattle.rj_engine.specs.Naming.{chosen_names}
use Rattle.rj_line.specs.declared.request.Request.{Request}
use Rattle.rj_explain.specs.Explained.{AreNamesWritten, HasNoNames, IsJoinOf}

-- no text has two clauses
abbrev pub HaveOneClause : Type 0
HaveOneClause = (text : List ℕ) (c d : Clause) → HasClause text c → HasClause text d → c ≡ d

same-value : {A E : Type 0} (x y : A) (answer : Result A E) → answer ≡ Ok x → answer ≡ Ok y → x ≡ y
same-value x y answer p q = cc

no-error : {A E : Type 0} (x : A) (answer : Result A E) → answer ≡ Ok x → IsErr answer → ⊥
no-error x answer p q = cc

pub one-join : HaveOneClause → (clause : List ℕ) (l r : TableValue) (join other : BoundJoin) → IsJoinOf clause l r join → IsJoinOf clause l r other
    → join ≡ other
one-join one clause l r join other p q =
    same-value join other (bound q.0 l r) (ap (λ (c : Clause). bound c l r) (sym (one clause p.0 q.0 p.1 q.1)) ∙ p.2) q.2

pub no-names : HaveOneClause → (request : Request) (l r : TableValue) (join : BoundJoin) → IsJoinOf request.clause.now l r join
    → IsErr (chosen_names request.choice join l r) → HasNoNames request l r
no-names one request l r join asked refused = λ names a.
    let same = one-join one request.clause.now l r join a.join asked a.asked in
    no-error names (chosen_names request.choice join l r) (ap (λ (j : BoundJoin). chosen_names request.choice j l r) same ∙ a.written) refused

pub names-of : HaveOneClause → (request : Request) (l r : TableValue) (join : BoundJoin) → IsJoinOf request.clause.now l r join → (o : Option (Vec (String Global) Global))
    → MatchOption o (IsErr (chosen_names request.choice join l r)) (λ v. chosen_names request.choice join l r ≡ Ok (map string_bytes v.items))
    → MatchOption o (HasNoNames request l r) (λ v. AreNamesWritten request l r (map string_bytes v.items))
names-of one request l r join asked None refused = no-names one request l r join asked refused
names-of one request l r join asked (Some v) is = record { join = join; asked = asked; written = is }
