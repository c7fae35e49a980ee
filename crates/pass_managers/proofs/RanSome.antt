-- Passes of which the first so many have run.
use Rattle.std.proofs.Common.{◌≡◌, ℕ, suc, ◌<◌, ◌≤◌, ◌+◌, List, [], ◌∷◌, ◌++◌, length, get_or, set, refl, sym, ap, subst, ◌∙◌, arith, append_assoc, append-nil}
use Rattle.std.specs.Prelude.{Ok, Err, IsSome}
use Rattle.std.proofs.lemmas.List.{length-append}
use Rattle.ir_program.specs.Program.{operation_at}
use Rattle.ir_program.specs.declared.handles.Operation.{Operation}
use Rattle.ir_program.specs.declared.handles.Ptr.{Ptr}
use Rattle.opt_dialect.specs.Statuses.{either}
use Rattle.opt_dialect.specs.declared.status.IRStatus.{IRStatus}
use Rattle.opt_dialect.specs.declared.status.OptError.{OptError}
use Rattle.pass_managers.specs.Behaviour.{AnswerIn, Behaviour, ContextIn, ManagerIn, PassTypes}
use Rattle.pass_managers.specs.Laws.{KindsEqual}
use Rattle.pass_managers.specs.Running.{RunsPass, RunsAll, RunsPasses, Retains, run_next, stopped}
use Rattle.pass_outside.specs.Sound.{IsSound}

-- the element behind a list, and the list with another there
get_or-behind : {X : Type 0} (xs ys : List X) (x d : X) → get_or (xs ++ x ∷ ys) (length xs) d ≡ x
get_or-behind [] ys x d = refl
get_or-behind (z ∷ xs) ys x d = get_or-behind xs ys x d

set-behind : {X : Type 0} (xs ys : List X) (x y : X) → set (xs ++ x ∷ ys) (length xs) y ≡ xs ++ y ∷ ys
set-behind [] ys x y = refl
set-behind (z ∷ xs) ys x y = ap (λ l. z ∷ l) (set-behind xs ys x y)

module _ {X : Type 0} where
  moved : (all done rest more : List X) (x : X) → all ≡ done ++ rest → rest ≡ x ∷ more → all ≡ (done ++ x ∷ []) ++ more
  moved all done rest more x p q = rw (p, q, append_assoc)

  written : (all now rest more : List X) (x y : X) (i : ℕ) → all ≡ now ++ rest → rest ≡ x ∷ more → length now ≡ i
      → set all i y ≡ now ++ y ∷ more
  written all now rest more x y i p q n = rw (p, q, ← n, set-behind)

  ended : (all done rest : List X) → all ≡ done ++ rest → rest ≡ [] → done ≡ all
  ended all done rest p q = sym (p ∙ ap (λ l. done ++ l) q ∙ append-nil done)

module _ {P : Type 0} {s : PassTypes} (b : Behaviour P s) (Accepts : ContextIn s → Ptr Operation → Type 0) (eq : KindsEqual s)
    (x : Ptr Operation) (c : ContextIn s) (m : ManagerIn s) (olds : List P) where
  -- the first so many have run
  pub record RanSome (i : ℕ) (news : List P) (d : ContextIn s) (n : ManagerIn s) (u : IRStatus) : Type 0 where
    pub done : List P
    pub now : List P
    pub rest : List P
    pub olds_are : olds ≡ done ++ rest
    pub news_are : news ≡ now ++ rest
    pub count : length now ≡ i
    pub ran : RunsAll b Accepts eq x c m done now d n u
    pub sound : IsSound d.program
    pub live : IsSome (operation_at d.program x)

  -- the next one, which is among those that haven't run
  next_is : {i : ℕ} {news : List P} {d : ContextIn s} {n : ManagerIn s} {u : IRStatus} (h : RanSome i news d n u)
      → i < length news → (p : P) → get_or news i p ≡ p → (rest : List P) × (h.rest ≡ p ∷ rest)
  next_is {i} {news} h below p is = by h.rest refl
    where
      by : (l : List P) → h.rest ≡ l → (rest : List P) × (h.rest ≡ p ∷ rest)
      by [] e =
          let all : news ≡ h.now ++ [] = h.news_are ∙ ap (λ l. h.now ++ l) e in
          let len : length news ≡ length h.now + 0 = rw all (length-append h.now []) in
          let count : length h.now ≡ i = h.count in
          absurd (omega arith)
      by (q ∷ rest) e =
          let all : news ≡ h.now ++ q ∷ rest = h.news_are ∙ ap (λ l. h.now ++ l) e in
          let there : get_or (h.now ++ q ∷ rest) (length h.now) p ≡ p = rw (← all, h.count) is in
          let same : q ≡ p = sym (get_or-behind h.now rest q p) ∙ there in
          (rest, e ∙ ap (λ z. z ∷ rest) same)

  -- it runs
  pub ran_more : {i : ℕ} {news : List P} {d f : ContextIn s} {n l k : ManagerIn s} {u : IRStatus} (p q : P) (r : AnswerIn s)
      → RanSome i news d n u → i < length news → get_or news i p ≡ p → RunsPass b Accepts p x d n (Ok r) q f l
      → Retains s eq r l k → IsSound f.program → IsSome (operation_at f.program x)
      → RanSome (i + 1) (set news i q) f k (either u r.ir_changed)
  ran_more {i} {news} p q r h below is run keeps sound live =
      let split = next_is h below p is in
      let new_news = written news h.now h.rest split.0 p q i h.news_are split.1 h.count in
      record {
        done = h.done ++ p ∷ [];
        now = h.now ++ q ∷ [];
        rest = split.0;
        olds_are = moved olds h.done h.rest split.0 p h.olds_are split.1;
        news_are = moved _ h.now (q ∷ split.0) split.0 q new_news refl;
        count = length-append h.now (q ∷ []) ∙ ap (λ k. k + 1) h.count;
        ran = run_next h.ran run keeps;
        sound = sound;
        live = live;
      }

  -- it answers an error
  pub ran_stops : {i : ℕ} {news : List P} {d f : ContextIn s} {n l : ManagerIn s} {u : IRStatus} {e : OptError} (p q : P)
      → RanSome i news d n u → i < length news → get_or news i p ≡ p → RunsPass b Accepts p x d n (Err e) q f l
      → RunsPasses b Accepts eq x c m olds (Err e) (set news i q) f l
  ran_stops {i} {news} p q h below is run =
      let split = next_is h below p is in
      stopped h.done p split.0 (h.olds_are ∙ ap (λ l. h.done ++ l) split.1) h.ran run
      (written news h.now h.rest split.0 p q i h.news_are split.1 h.count)

  -- all have run
  pub ran_all : {i : ℕ} {news : List P} {d : ContextIn s} {n : ManagerIn s} {u : IRStatus} → RanSome i news d n u
      → length news ≤ i → RunsAll b Accepts eq x c m olds news d n u
  ran_all {i} {news} {d} {n} {u} h far = by h.rest refl
    where
      by : (l : List P) → h.rest ≡ l → RunsAll b Accepts eq x c m olds news d n u
      by [] e = subst (λ l. RunsAll b Accepts eq x c m l news d n u) (ended olds h.done h.rest h.olds_are e)
          (subst (λ l. RunsAll b Accepts eq x c m h.done l d n u) (ended news h.now h.rest h.news_are e) h.ran)
      by (q ∷ rest) e =
          let all : news ≡ h.now ++ q ∷ rest = h.news_are ∙ ap (λ l. h.now ++ l) e in
          let len : length news ≡ length h.now + suc (length rest) = rw all (length-append h.now (q ∷ rest)) in
          let count : length h.now ≡ i = h.count in
          absurd (omega arith)
