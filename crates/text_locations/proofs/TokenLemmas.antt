-- Lemmas on tokens at the front of a text.
use Rattle.std.proofs.Common.{◌≡◌, ◌∙◌, refl, sym, ap, subst, ℕ, Bool, true, false, List, [], ◌∷◌, ◌++◌, Option, Some, None, cond, eq-eqb, not, chars, nat_lt, ◌&&◌}
use Rattle.std.proofs.lemmas.Bool.{ltb-true}
use Rattle.std.proofs.lemmas.Str.{chars-IsAscii}
use Rattle.std.proofs.lemmas.Str.Ascii.{IsAscii-nil, IsAscii-cons}
use Rattle.std.specs.Prelude.{codes}
use Rattle.std.specs.Str.{IsAscii}
use Rattle.text_streams.specs.Positions.{left, LiesBehind}
use Rattle.text_streams.specs.declared.position.Position.{Position}
use Rattle.std.specs.Char.{is_whitespace}
use Rattle.std.specs.List.{take_while}
use Rattle.std.specs.Option.{MatchOption, is_some}
use Rattle.text_streams.specs.declared.stream.StateStream.{StateStream}
use Rattle.text_streams.specs.declared.faults.ParseFault.{ParseFault}
use Rattle.text_streams.specs.declared.faults.TextError.TheVariants.{Syntax}
use Rattle.text_locations.specs.declared.tokens.Token.{Token}
use Rattle.text_locations.specs.declared.tokens.Token.TheVariants as tokens
use Rattle.text_locations.specs.Faults.{IsFaultAt}
use Rattle.text_locations.specs.Tokens.{behind_text, begins_with, goes_on, token_text, has_token, IsWithout, MissesToken}

-- what is behind a text that was read
pub behind_is : (ts rest : List ℕ) → behind_text ts (ts ++ rest) ≡ Some rest
behind_is [] rest = refl
behind_is (t ∷ ts) rest = ap (λ b. cond b (behind_text ts (ts ++ rest)) None) (eq-eqb t t refl) ∙ behind_is ts rest

pub behind_read : (from to : Position) (ts : List ℕ) → LiesBehind from to ts → behind_text ts (left from) ≡ Some (left to)
behind_read from to ts h = ap (behind_text ts) h.taken ∙ behind_is ts (left to)

-- ---- tokens

abbrev is_token : Token → Option (List ℕ) → Bool
is_token token o = elim o [ None ↦ false | Some behind ↦ not (goes_on token behind) ]

abbrev pub all_ascii : List ℕ → Bool
all_ascii [] = true
all_ascii (c ∷ cs) = nat_lt c 128 && all_ascii cs

both : (a b : Bool) → (a && b) ≡ true → (a ≡ true) × (b ≡ true)
both true b e = (refl, e)
both false b e = cc

ascii_is : (cs : List ℕ) → all_ascii cs ≡ true → IsAscii cs
ascii_is [] e = IsAscii-nil
ascii_is (c ∷ cs) e = let h = both (nat_lt c 128) (all_ascii cs) e in IsAscii-cons c cs (ltb-true c 128 h.0) (ascii_is cs h.1)

-- characters below 128 are the bytes that spell them
pub chars_are : (cs : List ℕ) → all_ascii cs ≡ true → chars cs ≡ cs
chars_are cs e = chars-IsAscii cs (ascii_is cs e)

token_ascii : (token : Token) → all_ascii (token_text token) ≡ true
token_ascii tokens.Unknown = refl
token_ascii tokens.InMemory = refl
token_ascii tokens.Colon = refl
token_ascii tokens.Comma = refl
token_ascii tokens.Opens = refl
token_ascii tokens.Closes = refl
token_ascii tokens.Less = refl
token_ascii tokens.Greater = refl
token_ascii tokens.Line = refl
token_ascii tokens.Column = refl
token_ascii tokens.Fused = refl
token_ascii tokens.Named = refl
token_ascii tokens.CallSite = refl

pub rest_chars : chars (codes "in-memory>") ≡ codes "in-memory>"
rest_chars = chars_are (codes "in-memory>") refl

token_chars : (token : Token) → chars (token_text token) ≡ token_text token
token_chars token = chars_are (token_text token) (token_ascii token)

token_is : (token : Token) (text : List ℕ) → text ≡ token_text token → chars text ≡ token_text token
token_is token text e = ap chars e ∙ token_chars token

pub has_none : (token : Token) (text cs : List ℕ) → text ≡ token_text token → behind_text (chars text) cs ≡ None → has_token token cs ≡ false
has_none token text cs e h = ap (is_token token) (ap (λ ts. behind_text ts cs) (sym (token_is token text e)) ∙ h)

pub lies_behind_token : (token : Token) (text : List ℕ) (from to : Position) → text ≡ token_text token → LiesBehind from to (chars text) → LiesBehind from to (token_text token)
lies_behind_token token text from to e h = let P : List ℕ → Type 0 = λ cs. LiesBehind from to cs in subst P (token_is token text e) h

pub has_some : (token : Token) (text : List ℕ) (from to : Position) (b : Bool) → text ≡ token_text token → LiesBehind from to (chars text) →
    goes_on token (left to) ≡ b → has_token token (left from) ≡ not b
has_some token text from to b e h k =
    ap (is_token token) (behind_read from to (token_text token) (lies_behind_token token text from to e h)) ∙ ap not k

pub begins_at : (ts : List ℕ) (at : Position) (r : Option Position) → MatchOption r (behind_text ts (left at) ≡ None) (λ to. LiesBehind at to ts) →
    is_some r ≡ begins_with ts (left at)
begins_at ts at None h = ap (λ o. elim o [ None ↦ false | Some rest ↦ true ]) (sym h)
begins_at ts at (Some to) h = ap (λ o. elim o [ None ↦ false | Some rest ↦ true ]) (sym (behind_read at to ts h))

-- another token is behind the white space, and a fault is told there
pub missed : {S : Type 0} (token : Token) (old new : StateStream S) (p : Position) (fault : ParseFault) → new ≡ old → IsWithout token old →
    LiesBehind new.position p (take_while is_whitespace (left new.position)) → IsFaultAt p Syntax fault → MissesToken token old fault
missed {S} token old new p fault e w h at =
    let P : StateStream S → Type 0 = λ s. LiesBehind s.position p (take_while is_whitespace (left s.position)) in
    let spaces : LiesBehind old.position p (take_while is_whitespace (left old.position)) = subst P e h in
    record {
      without = w;
      at = record { here = w.spaces.behind.counted ∙ sym spaces.counted ∙ at.here; cause = at.cause; unconsumed = at.unconsumed };
    }
