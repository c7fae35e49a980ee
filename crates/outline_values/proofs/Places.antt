-- Places that lie behind one another.
use Rattle.std.proofs.Common.{Result, Ok, Err, IfOk, IfSome, Option, None, Some, inl, inr, ◌⊎◌, subst, ◌≡◌, ◌<◌, ◌≤◌, ◌∙◌, ℕ, List, [], ◌∷◌, ◌++◌, length, refl, sym, ap, append_assoc, length-append, arith}
use Rattle.std.specs.Char.{is_whitespace}
use Rattle.std.specs.List.{take_while}
use Rattle.text_streams.specs.declared.position.Position.{Position}
use Rattle.text_streams.specs.Positions.{left, place, behind, behind_all, LiesBehind}
use Rattle.stream_tokens.specs.declared.lexemes.Lexeme.{Lexeme}
use Rattle.stream_tokens.specs.Lexemes.{IsLexeme}
use Rattle.outline_values.specs.declared.values.OutlinedValue.{OutlinedValue}
use Rattle.outline_values.specs.declared.values.OutlinedValue.TheVariants.{Names, Note, Origin, Other}
use Rattle.outline_values.specs.Names.{SaysName, AreNames, first_name, next_name, SaysNames}
use Rattle.outline_values.specs.Places.{GoesTo, Passes, TakesSign}
use Rattle.ir_names.specs.declared.identifier.Identifier.{Identifier}
use Rattle.outline_values.specs.Texts.{SaysText}
use Rattle.outline_values.specs.Values.{SaysValue}

behind_append : (at : ℕ × ℕ) (cs ds : List ℕ) → behind_all (behind_all at cs) ds ≡ behind_all at (cs ++ ds)
behind_append at [] ds = refl
behind_append at (c ∷ cs) ds = behind_append (behind at c) cs ds

pub behind_both : (a b c : Position) (cs ds : List ℕ) → LiesBehind a b cs → LiesBehind b c ds → LiesBehind a c (cs ++ ds)
behind_both a b c cs ds h k = record {
  taken = h.taken ∙ (ap (λ (xs : List ℕ). cs ++ xs) k.taken ∙ sym (append_assoc cs ds (left c)));
  counted = k.counted ∙ (ap (λ at. behind_all at ds) h.counted ∙ behind_append (place a) cs ds);
}

pub goes_nowhere : (a : Position) → GoesTo a a
goes_nowhere a = record { taken = []; behind = record { taken = refl; counted = refl } }

pub goes_by : (a b c : Position) (cs ds : List ℕ) → LiesBehind a b cs → LiesBehind b c ds → GoesTo a c
goes_by a b c cs ds h k = record { taken = cs ++ ds; behind = behind_both a b c cs ds h k }

pub goes_both : (a b c : Position) → GoesTo a b → GoesTo b c → GoesTo a c
goes_both a b c h k = goes_by a b c h.taken k.taken h.behind k.behind

-- what is left is no longer
pub goes_on : (a b : Position) → GoesTo a b → length (left b) ≤ length (left a)
goes_on a b h =
    let whole : length (left a) ≡ length (h.taken ++ left b) = ap (λ (xs : List ℕ). length xs) h.behind.taken in
    let both = length-append h.taken (left b) in
    omega (arith, whole, both)

-- and with a character it is shorter
one_less : (a b : Position) (c : ℕ) → LiesBehind a b (c ∷ []) → length (left b) < length (left a)
one_less a b c h =
    let whole : length (left a) ≡ length (c ∷ left b) = ap (λ (xs : List ℕ). length xs) h.taken in
    omega (arith, whole)

pub passes_sign : (a b c : Position) (cs : List ℕ) (sign : ℕ) → LiesBehind a b cs → LiesBehind b c (sign ∷ []) → Passes a c
passes_sign a b c cs sign h k = record {
  goes = goes_by a b c cs (sign ∷ []) h k;
  less =
      let some = one_less b c sign k in
      let none = goes_on a b (record { taken = cs; behind = h }) in
      omega (arith, some, none);
}

pub passes_more : (a b c : Position) → Passes a b → GoesTo b c → Passes a c
passes_more a b c h k = record {
  goes = goes_both a b c h.goes k;
  less =
      let some = h.less in
      let none = goes_on b c k in
      omega (arith, some, none);
}

pub by_one : (a b : Position) (cs : List ℕ) → LiesBehind a b cs → GoesTo a b
by_one a b cs h = record { taken = cs; behind = h }

pub lexeme_goes : (from : Position) (token : Lexeme) → IsLexeme from token → GoesTo from token.end
lexeme_goes from token h = goes_by from token.start token.end _ token.text.items h.before h.behind

pub text_goes : (from to : Position) (text : _) → SaysText from text to → GoesTo from to
text_goes from to text h = goes_by from h.start to _ h.said.1 h.spaces h.behind

sign_goes : (sign : ℕ) (from to : Position) → TakesSign sign from to → GoesTo from to
sign_goes sign from to h = goes_by from h.start to _ (sign ∷ []) h.spaces h.behind

name_goes : (from to : Position) (name : Option Identifier) → SaysName from name to → GoesTo from to
name_goes from to None h = sign_goes 63 from to h
name_goes from to (Some name) h = subst (λ (p : Position). GoesTo from p) (sym h.ends) (lexeme_goes from h.token h.next)

are_names_go : (from to : Position) (names : List (Option Identifier)) → AreNames from names to → GoesTo from to
are_names_go from to names (first_name h) = name_goes from to h.name h.says
are_names_go from to names (next_name {old = old} {mid = mid} {next = next} k s h) =
    goes_both from mid to (are_names_go from mid old k) (goes_both mid next to (sign_goes 44 mid next s) (name_goes next to h.name h.says))

inside_goes : (from to : Position) (names : List (Option Identifier)) → ((names ≡ []) × (to ≡ from)) ⊎ AreNames from names to → GoesTo from to
inside_goes from to names (inl h) = subst (λ (p : Position). GoesTo from p) (sym h.1) (goes_nowhere from)
inside_goes from to names (inr h) = are_names_go from to names h

names_go : (from to : Position) (names : List (Option Identifier)) → SaysNames from names to → GoesTo from to
names_go from to names h = goes_both from h.start to (sign_goes 91 from h.start h.open_bracket)
    (goes_both h.start h.end to (inside_goes h.start h.end names h.inside) (sign_goes 93 h.end to h.close_bracket))

pub value_goes : (from to : Position) (value : OutlinedValue) → SaysValue from value to → GoesTo from to
value_goes from to (Names names) h = goes_both from h.token.end to (lexeme_goes from h.token h.next) (names_go h.token.end to names.items h.holds)
value_goes from to (Note text) h = goes_both from h.token.end to (lexeme_goes from h.token h.next) (text_goes h.token.end to text h.holds)
value_goes from to (Origin text) h = goes_both from h.token.end to (lexeme_goes from h.token h.next) (text_goes h.token.end to text h.holds)
value_goes from to Other h = h.goes

-- how a call ends that goes on where another one ended
pub ends_behind : (a b : Position) {E : Type 0} (result : Result Position E) → GoesTo a b → IfOk result (GoesTo b) → IfOk result (GoesTo a)
ends_behind a b (Ok to) h k = goes_both a b to h k
ends_behind a b (Err e) h k = k

pub ends_passed : (a b : Position) {E : Type 0} (result : Result Position E) → GoesTo a b → IfOk result (Passes b) → IfOk result (GoesTo a)
ends_passed a b (Ok to) h k = goes_both a b to h k.goes
ends_passed a b (Err e) h k = k

-- a sign, what is behind it, and the same once more
pub goes_sign : (a b c : Position) → Passes a b → GoesTo b c → GoesTo a c
goes_sign a b c h k = goes_both a b c h.goes k

pub goes_next : (a b c d : Position) → GoesTo a b → Passes b c → GoesTo c d → GoesTo a d
goes_next a b c d h s k = goes_both a b d h (goes_sign b c d s k)

-- how a call ends that looks for a sign behind white space
pub ends_sign : (from start : Position) (sign : ℕ) (result : Option Position) → LiesBehind from start (take_while is_whitespace (left from))
    → IfSome result (λ to. LiesBehind start to (sign ∷ [])) → IfSome result (TakesSign sign from)
ends_sign from start sign (Some to) h k = record { start = start; spaces = h; behind = k }
ends_sign from start sign None h k = k

pub ends_passing : (from start : Position) (sign : ℕ) (result : Option Position) → LiesBehind from start (take_while is_whitespace (left from))
    → IfSome result (λ to. LiesBehind start to (sign ∷ [])) → IfSome result (Passes from)
ends_passing from start sign (Some to) h k = passes_sign from start to _ sign h k
ends_passing from start sign None h k = k
