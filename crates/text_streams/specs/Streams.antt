-- Streams of characters, and what reading from one does.
use Rattle.std.specs.Prelude.{ℕ, ◌≡◌, List, false}
use Rattle.text_streams.specs.declared.stream.StateStream.{StateStream}
use Rattle.text_streams.specs.declared.faults.ParseFault.{ParseFault}
use Rattle.std.specs.Fn.{Once, FnOnceReturnsAtMut}
use Rattle.std.specs.Borrow.{MutBor}
use Rattle.text_streams.specs.Positions.{left, place, LiesBehind}

-- these characters were read, and the state is the same
pub record Reads {S : Type 0} (old new : StateStream S) (cs : List ℕ) : Type 0 where
  pub behind : LiesBehind old.position new.position cs
  pub state : new.state ≡ old.state

-- a fault that stands where the stream is, and before which nothing was read
pub record StaysAtFault {S : Type 0} (old new : StateStream S) (fault : ParseFault) : Type 0 where
  pub stays : new ≡ old
  pub here : place old.position ≡ (fault.line, fault.column)
  pub unconsumed : fault.consumed ≡ false

-- a stream at the start of these characters, beside this state
pub record IsStart {S : Type 0} (characters : List ℕ) (beside : S) (stream : StateStream S) : Type 0 where
  pub text : left stream.position ≡ characters
  pub first : place stream.position ≡ (1, 1)
  pub state : stream.state ≡ beside

-- a parser was called once, at the start of a text beside a state, and this is what it answered
pub record ReadsStart {F S T : Type 0} (parser : Once F (MutBor (StateStream S) × Unit {0}) (T × (MutBor (StateStream S) × Unit {0})))
    (f : F) (characters : List ℕ) (beside : S) (result : T) : Type 0 where
  pub start : StateStream S
  pub end : StateStream S
  pub starts : IsStart characters beside start
  pub called : FnOnceReturnsAtMut parser f start result end
