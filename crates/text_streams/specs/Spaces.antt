-- White space around what a parser reads.
use Rattle.std.specs.Prelude.{◌≡◌, Result, MatchResult}
use Rattle.std.specs.Borrow.{MutBor}
use Rattle.std.specs.Char.{is_whitespace}
use Rattle.std.specs.Fn.{Once, FnOnceReturnsAtMut}
use Rattle.std.specs.List.{take_while}
use Rattle.text_streams.specs.declared.stream.StateStream.{StateStream}
use Rattle.text_streams.specs.declared.faults.ParseFault.{ParseFault}
use Rattle.text_streams.specs.Positions.{left}
use Rattle.text_streams.specs.Streams.{Reads}

-- exactly the white space there was read
abbrev pub SkipsSpaces : {S : Type 0} → StateStream S → StateStream S → Type 0
SkipsSpaces old new = Reads old new (take_while is_whitespace (left old.position))

-- White space was read, the parser was called there, and where it read something the white space behind that was read too.
pub record ReadsSpaced {F S T : Type 0} (parser : Once F (MutBor (StateStream S) × Unit {0}) (Result T ParseFault × (MutBor (StateStream S) × Unit {0})))
    (f : F) (old : StateStream S) (result : Result T ParseFault) (new : StateStream S) : Type 0 where
  pub start : StateStream S
  pub end : StateStream S
  pub before : SkipsSpaces old start
  pub called : FnOnceReturnsAtMut parser f start result end
  pub behind : MatchResult result (λ _. SkipsSpaces end new) (λ _. new ≡ end)
