-- A pass that has run at the first so many of an operation's nested operations.
use Rattle.std.proofs.Common.{◌≡◌, ℕ, ◌<◌, ◌≤◌, ◌+◌, List, [], ◌∷◌, ◌++◌, length, get_or, take, drop, Contains, IsSome, sym, ap, subst, ◌∙◌, append_assoc}
use Rattle.std.specs.Prelude.{Ok, Err}
use Rattle.std.proofs.lemmas.List.{take_more, take_all, take-append-drop}
use Rattle.ir_program.specs.Program.{operation_at}
use Rattle.ir_program.specs.declared.handles.Operation.{Operation}
use Rattle.ir_program.specs.declared.handles.Ptr.{Ptr}
use Rattle.opt_dialect.specs.Statuses.{either}
use Rattle.opt_dialect.specs.declared.status.IRStatus.{IRStatus}
use Rattle.opt_dialect.specs.declared.status.OptError.{OptError}
use Rattle.pass_managers.specs.Behaviour.{AnswerIn, Behaviour, ContextIn, ManagerIn, OutcomeIn, PassTypes}
use Rattle.pass_managers.specs.Laws.{KindsEqual}
use Rattle.pass_managers.specs.Running.{RunsPass, RunsAtEach, RunsNested, RunsOnNested, Retains, at_next, stopped_at, on_all}
use Rattle.pass_outside.specs.Nested.{IsChild, nested_in}
use Rattle.pass_outside.specs.Outside.{LeavesOutside}
use Rattle.pass_outside.specs.Sound.{IsSound}
use Rattle.pass_outside.proofs.Children.{child_of, left_in_child, children_stay}

module _ {P : Type 0} {s : PassTypes} (b : Behaviour P s) (Accepts : ContextIn s → Ptr Operation → Type 0) (eq : KindsEqual s)
    (x : Ptr Operation) (xs : List (Ptr Operation)) (c : ContextIn s) (m : ManagerIn s) (p : P) where
  -- it has run at the first so many, and the operation has the same nested operations
  pub record RanNested (i : ℕ) (q : P) (d : ContextIn s) (n : ManagerIn s) (u : IRStatus) : Type 0 where
    pub ran : RunsAtEach b Accepts eq c m p (take i xs) q d n u
    pub sound : IsSound d.program
    pub live : IsSome (operation_at d.program x)
    pub nested : xs ≡ nested_in d.program x

  -- the next one is a child
  pub next_child : {i : ℕ} {q : P} {d : ContextIn s} {n : ManagerIn s} {u : IRStatus} (y : Ptr Operation) → RanNested i q d n u
      → i < length xs → get_or xs i y ≡ y → IsChild d.program x y
  next_child {i} {d = d} y h below is = child_of d.program x h.sound y (subst (λ l. Contains l y) h.nested (i, below, is))

  -- and the pass runs at it
  pub ran_next : {i : ℕ} {q t : P} {d f : ContextIn s} {n l k : ManagerIn s} {u : IRStatus} (y : Ptr Operation) (r : AnswerIn s)
      → RanNested i q d n u → i < length xs → get_or xs i y ≡ y → RunsPass b Accepts q y d n (Ok r) t f l
      → LeavesOutside d.program f.program y → Retains s eq r l k → RanNested (i + 1) t f k (either u r.ir_changed)
  ran_next {i} {q} {t} {d} {f} {n} {l} {k} {u} y r h below is run leaves retains =
      let child = next_child y h below is in
      let grown : take (i + 1) xs ≡ take i xs ++ y ∷ [] = take_more xs i y below ∙ ap (λ z. take i xs ++ z ∷ []) is in
      record {
        ran = subst (λ ys. RunsAtEach b Accepts eq c m p ys t f k (either u r.ir_changed)) (sym grown) (at_next y h.ran run retains);
        sound = leaves.sound;
        live = (left_in_child d.program f.program x y h.sound child leaves).live;
        nested = h.nested ∙ sym (children_stay d.program f.program x y h.sound child leaves);
      }

  -- it answers an error at one
  pub ran_stopped : {i : ℕ} {q t : P} {d f : ContextIn s} {n l : ManagerIn s} {u : IRStatus} {e : OptError} (y : Ptr Operation)
      → RanNested i q d n u → i < length xs → get_or xs i y ≡ y → RunsPass b Accepts q y d n (Err e) t f l
      → RunsNested b Accepts eq xs c m p (Err e) t f l
  ran_stopped {i} y h below is run = stopped_at (take i xs) y (drop (i + 1) xs) split h.ran run
    where
      split : xs ≡ take i xs ++ y ∷ drop (i + 1) xs
      split =
          let more = take_more xs i y below in
          sym (take-append-drop (i + 1) xs) ∙ rw (more, append_assoc) (ap (λ z. take i xs ++ z ∷ drop (i + 1) xs) is)

  -- it has run at all
  pub ran_on_all : {i : ℕ} {q : P} {d : ContextIn s} {n : ManagerIn s} {u : IRStatus} → RanNested i q d n u
      → length xs ≤ i → RunsAtEach b Accepts eq c m p xs q d n u
  ran_on_all {i} {q} {d} {n} {u} h far = subst (λ ys. RunsAtEach b Accepts eq c m p ys q d n u) (take_all i xs far) h.ran

-- the operations that are listed are the nested ones
pub on_listed : {P : Type 0} {s : PassTypes} (b : Behaviour P s) (Accepts : ContextIn s → Ptr Operation → Type 0) (eq : KindsEqual s)
    {xs ys : List (Ptr Operation)} {c d : ContextIn s} {m n : ManagerIn s} {p q : P} {r : OutcomeIn s} → xs ≡ ys
    → RunsNested b Accepts eq xs c m p r q d n → RunsOnNested b Accepts eq ys c m p r q d n
on_listed b Accepts eq {c = c} {d = d} {m = m} {n = n} {p = p} {q = q} {r = r} same run =
    subst (λ l. RunsOnNested b Accepts eq l c m p r q d n) same (on_all run)
