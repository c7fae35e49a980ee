-- Functions that print.
use Rattle.std.specs.Prelude.{ℕ, ◌≡◌, List, ◌++◌, Result, Ok}
use Rattle.std.specs.Borrow.{Bor, MutBor}
use Rattle.std.specs.Fn.{Shared}
use Rattle.std.specs.declared.alloc.AllocError.{AllocError}
use Rattle.text_writers.specs.declared.state.State.{State}

-- What a call that prints may do: the state and the writer as they are lent, what it answers, and what it leaves there.
abbrev pub PrinterCall : Type 0 → Type 1
PrinterCall W = MutBor State → MutBor W → Result (Unit {0}) AllocError → MutBor State → MutBor W → Type 0

-- a function that prints something in a context
abbrev pub Printer : (F C W : Type 0) → Type 1
Printer F C W = Shared F (Bor C × (MutBor State × (MutBor W × Unit {0}))) (Result (Unit {0}) AllocError × (MutBor State × (MutBor W × Unit {0})))

-- its calls in a context
abbrev pub calls : {F C W : Type 0} → Printer F C W → F → C → PrinterCall W
calls {C = C} g f c shown before result left after =
    (context : Bor C) × (context.now ≡ c) × g.post f (context, (shown, (before, tt))) (result, (left, (after, tt)))

-- a function that prints a value in a context
abbrev pub ItemPrinter : (F T C W : Type 0) → Type 1
ItemPrinter F T C W = Shared F (T × (Bor C × (MutBor State × (MutBor W × Unit {0})))) (Result (Unit {0}) AllocError × (MutBor State × (MutBor W × Unit {0})))

-- its calls for a value in a context
abbrev pub item_calls : {F T C W : Type 0} → ItemPrinter F T C W → F → T → C → PrinterCall W
item_calls {C = C} g f x c shown before result left after =
    (context : Bor C) × (context.now ≡ c) × g.post f (x, (context, (shown, (before, tt)))) (result, (left, (after, tt)))

-- Each call gives the state back, and one that succeeds puts bytes behind what was written.
abbrev pub AppendsOnly : {W : Type 0} → (W → List ℕ) → PrinterCall W → Type 0
AppendsOnly {W} written call =
    (shown : MutBor State) (before : MutBor W) (result : Result (Unit {0}) AllocError) (left : MutBor State) (after : MutBor W) →
    call shown before result left after →
    (left.now ≡ shown.now) × (result ≡ Ok tt → (bytes : List ℕ) × (written after.now ≡ written before.now ++ bytes))

-- A call in this state succeeded, and put these bytes behind what was written.
pub record Prints {W : Type 0} (written : W → List ℕ) (call : PrinterCall W) (state : State) (bytes : List ℕ) : Type 0 where
  pub shown : MutBor State
  pub shows : shown.now ≡ state
  pub before : MutBor W
  pub left : MutBor State
  pub after : MutBor W
  pub called : call shown before (Ok tt) left after
  pub appended : written after.now ≡ written before.now ++ bytes
