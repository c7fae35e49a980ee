-- Lemmas on names at the front of a text.
use Rattle.std.proofs.Common.{◌≡◌, ◌∙◌, ◌<◌, refl, ap, subst, arith, ℕ, Bool, true, false, cond, ◌&&◌, List, [], ◌∷◌, ◌++◌, Option, Some, None, Global, encode_utf8_all}
use Rattle.std.proofs.lemmas.Bool.{and_parts}
use Rattle.std.proofs.lemmas.List.Sums.{take_while-cons}
use Rattle.std.proofs.lemmas.Str.{encode_ascii}
use Rattle.std.specs.List.{list_all, take_while}
use Rattle.std.specs.String.{string_bytes}
use Rattle.std.specs.declared.string.String.{String}
use Rattle.ir_names.proofs.Identifiers.{identifier_small}
use Rattle.ir_names.specs.Identifier.{text_of}
use Rattle.ir_names.specs.Text.{is_first_code, is_later_code, is_identifier}
use Rattle.ir_names.specs.declared.identifier.Identifier.{Identifier}
use Rattle.text_streams.specs.declared.position.Position.{Position}
use Rattle.text_streams.specs.declared.stream.StateStream.{StateStream}
use Rattle.text_streams.specs.Positions.{left, LiesBehind}
use Rattle.text_streams.specs.Quotes.{Said, Answers}
use Rattle.text_parsables.specs.Fronts.{ReadsValue}
use Rattle.text_parsables.specs.Names.{name_text, NameStands}

and_true : (a b : Bool) → a ≡ true → b ≡ true → (a && b) ≡ true
and_true true b h k = k
and_true false b h k = cc

-- each code of a name is below 128
later_small : (c : ℕ) → is_later_code c ≡ true → c < 128
later_small c h = identifier_small (95 ∷ c ∷ []) 1 0 (and_true (is_later_code c) true h refl) (omega arith)

-- so in UTF-8 a name is itself
later_encoded : (cs : List ℕ) → list_all is_later_code cs ≡ true → encode_utf8_all cs ≡ cs
later_encoded [] h = refl
later_encoded (c ∷ cs) h =
    let parts = and_parts (is_later_code c) (list_all is_later_code cs) h in
    ap (λ front. front ++ encode_utf8_all cs) (encode_ascii c (later_small c parts.0)) ∙ ap (λ rest. c ∷ rest) (later_encoded cs parts.1)

-- what is taken from the front while a test passes passes it
all_taken : (test : ℕ → Bool) (cs : List ℕ) → list_all test (take_while test cs) ≡ true
all_taken test [] = refl
all_taken test (c ∷ cs) =
    let at : (b : Bool) → test c ≡ b → list_all test (cond b (c ∷ take_while test cs) []) ≡ true =
    elim [ true ↦ λ e. and_true (test c) (list_all test (take_while test cs)) e (all_taken test cs) | false ↦ λ e. refl ]
    in rw (take_while-cons test c cs) (at (test c) refl)

first_later : (c : ℕ) → is_first_code c ≡ true → is_later_code c ≡ true
first_later c h = rw h refl

-- the name at the front of a text is an identifier, and itself in UTF-8
pub record IsName (cs : List ℕ) : Type 0 where
  pub identifier : is_identifier cs ≡ true
  pub encoded : encode_utf8_all cs ≡ cs

name_at : (b : Bool) (c : ℕ) (cs : List ℕ) (said : Said) → is_first_code c ≡ b →
    cond b (Some (c ∷ take_while is_later_code cs, c ∷ take_while is_later_code cs)) None ≡ Some said → IsName said.0
name_at true c cs said e h =
    let all = all_taken is_later_code cs in
    let name : List ℕ = c ∷ take_while is_later_code cs in
    let there : IsName name = record {
      identifier = and_true (is_first_code c) (list_all is_later_code (take_while is_later_code cs)) e all;
      encoded = later_encoded name (and_true (is_later_code c) (list_all is_later_code (take_while is_later_code cs)) (first_later c e) all);
    } in
    let same : name ≡ said.0 = ap (λ o. elim o [ None ↦ name | Some s ↦ s.0 ]) h in
    subst IsName same there
name_at false c cs said e h = cc

pub name_is : (text : List ℕ) (said : Said) → name_text text ≡ Some said → IsName said.0
name_is [] said h = cc
name_is (c ∷ cs) said h = name_at (is_first_code c) c cs said refl h

-- an answer that is a text is what is said
pub record IsSaid (front : Option Said) (from to : Position) (text : String Global) : Type 0 where
  pub said : Said
  pub there : front ≡ Some said
  pub bytes : string_bytes text ≡ encode_utf8_all said.0
  pub behind : LiesBehind from to said.1

pub answered : (front : Option Said) (from to : Position) (text : String Global) → Answers front [] from (Some (text, to)) → IsSaid front from to text
answered None from to text h = cc
answered (Some said) from to text h = record { said = said; there = refl; bytes = h.0; behind = h.1 }

-- the text that was read is an identifier
pub read_identifier : (from to : Position) (text : String Global) → Answers (name_text (left from)) [] from (Some (text, to)) → is_identifier (string_bytes text) ≡ true
read_identifier from to text h =
    let said = answered (name_text (left from)) from to text h in
    let name = name_is (left from) said.said said.there in
    ap is_identifier (said.bytes ∙ name.encoded) ∙ name.identifier

pub reads_name : {S : Type 0} (old : StateStream S) (to : Position) (text : String Global) (id : Identifier) →
    Answers (name_text (left old.position)) [] old.position (Some (text, to)) → text_of id ≡ string_bytes text →
    ReadsValue NameStands old (record { position = to; state = old.state }) id
reads_name old to text id h e =
    let said = answered (name_text (left old.position)) old.position to text h in
    let name = name_is (left old.position) said.said said.there in
    record {
      characters = said.said.1;
      stands = ((said.said.0, said.there, e ∙ said.bytes ∙ name.encoded), refl);
      behind = said.behind;
    }
