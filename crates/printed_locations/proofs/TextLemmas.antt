-- What is printed of tokens, one behind the other.
use Rattle.std.proofs.Common.{◌≡◌, ◌∙◌, refl, sym, ap, subst, ℕ, Bool, true, false, List, [], ◌∷◌, ◌++◌, map, drop, drop-cons, add-one, suc, get_or, length, ◌<◌, ◌+◌, decimal, append_assoc, append-nil, Option, Some, Vec, Box, Global, chars, encode_utf8_all}
use Rattle.std.specs.Prelude.{codes}
use Rattle.std.specs.String.{string_bytes}
use Rattle.std.specs.declared.string.String.{String}
use Rattle.ir_print.specs.Layout.{in_quotes}
use Rattle.ir_locations.specs.declared.source.Source.{Source}
use Rattle.ir_locations.specs.declared.source.Source.TheVariants.{InMemory, File}
use Rattle.ir_locations.specs.declared.location.Location.{Location}
use Rattle.ir_locations.specs.declared.location.Location.TheOpen as locations
use Rattle.ir_locations.specs.declared.location.Location.TheOpen.{Location-F}
use Rattle.ir_locations.specs.declared.location.Location.TheViews as views
use Rattle.ir_locations.specs.declared.location.Location.TheVariants as variants
use Rattle.ir_locations.specs.declared.location.Location.TheVariants.{rolls-SrcPos, rolls-Fused, rolls-Named, rolls-CallSite, rolls-Unknown}
use Rattle.ir_locations.specs.declared.location.Location.TheFolds.{fold-Location, fold-roll-Location}
use Rattle.text_writers.specs.Appending.{Appends}
use Rattle.printed_locations.specs.Tokens.{Token, sign, separator, number, text, metadata, source_token, place_tokens, metadata_tokens, member_tokens, further_tokens, fused_tokens, last_tokens, named_tokens, call_site_tokens, tokens_step, tokens_of}
use Rattle.printed_locations.specs.Printed.{IsTokenText, AddsTokens, IsTextOf, source_text, separator_before}

-- what is left of a list from one of its members on
pub drop_more : {X : Type 0} (xs : List X) (i : ℕ) (x : X) → i < length xs → x ≡ get_or xs i x → drop i xs ≡ x ∷ drop (i + 1) xs
drop_more xs i x lt e = rw add-one (drop-cons xs i x lt ∙ ap (λ y. y ∷ drop (suc i) xs) (sym e))

module _ {A : Type 0} (prints : A → List ℕ → Type 0) where
  abbrev Adds : List ℕ → List (Token A) → List ℕ → Type 0
  Adds = AddsTokens prints

  pub adds_both : (old mid new : List ℕ) (ts us : List (Token A)) → Adds old ts mid → Adds mid us new → Adds old (ts ++ us) new
  adds_both old mid new [] us h k = subst (λ m. Adds m us new) (sym h) k
  adds_both old mid new (t ∷ ts) us h k = (h.0, h.1, adds_both h.0 mid new ts us h.2 k)

  pub source_added : (source : Source) (old mid new : List ℕ) (ts : List (Token A)) → mid ≡ old ++ source_text source → Adds mid ts new →
      Adds old (source_token source ∷ ts) new
  source_added InMemory old mid new ts e h = (mid, (codes "<in-memory>", refl, e), h)
  source_added (File name) old mid new ts e h = (mid, (source_text (File name), refl, e), h)

  pub labelled_added : (c : ℕ) (label : List ℕ) (n : ℕ) (old mid new : List ℕ) (ts : List (Token A)) →
      mid ≡ (((old ++ c ∷ 32 ∷ []) ++ label) ++ codes ": ") ++ decimal n → Adds mid ts new →
      Adds old (separator c ∷ sign label ∷ separator 58 ∷ number n ∷ ts) new
  labelled_added c label n old mid new ts e h = (
    old ++ c ∷ 32 ∷ [],
    (c ∷ 32 ∷ [], refl, refl),
    (
      (old ++ c ∷ 32 ∷ []) ++ label,
      (label, refl, refl),
      (((old ++ c ∷ 32 ∷ []) ++ label) ++ codes ": ", (codes ": ", refl, refl), (mid, (decimal n, refl, e), h)),
    ),
  )

  pub signs_added : (a b : List ℕ) (old mid new : List ℕ) (ts : List (Token A)) → mid ≡ old ++ (a ++ b) → Adds mid ts new →
      Adds old (sign a ∷ sign b ∷ ts) new
  signs_added a b old mid new ts e h = (old ++ a, (a, refl, refl), (mid, (b, refl, e ∙ sym (append_assoc old a b)), h))

  pub metadata_added : (a : A) (old begun said new : List ℕ) → begun ≡ old ++ codes "<" → Appends (prints a) begun said → new ≡ said ++ codes ">" →
      Adds old (metadata_tokens (Some a)) new
  metadata_added a old begun said new e h k = (begun, (codes "<", refl, e), (said, h, (new, (codes ">", refl, k), refl)))

  -- what is printed behind what was written, as bytes of its own
  pub shifted : (before old new : List ℕ) (ts : List (Token A)) → Adds (before ++ old) ts new →
      (bytes : List ℕ) × Adds old ts bytes × (new ≡ before ++ bytes)
  shifted before old new [] h = (old, refl, sym h)
  shifted before old new (t ∷ ts) h =
      let rest = shifted before (old ++ h.1.0) new ts (subst (λ m. Adds m ts new) (h.1.2 ∙ append_assoc before old h.1.0) h.2) in
      (rest.0, (old ++ h.1.0, (h.1.0, h.1.1, refl), rest.1), rest.2)

  pub printed : (l : Location A) (old new : List ℕ) → Adds old (tokens_of l) new → Appends (IsTextOf prints l) old new
  printed l old new h = shifted old [] new (tokens_of l) (subst (λ m. Adds m (tokens_of l) new) (sym (append-nil old)) h)

  -- ---- one location by what is in it

  place_is : (source : Source) (line column : ℕ) → tokens_of {A = A} (variants.SrcPos source line column) ≡ source_token source ∷ place_tokens line column
  place_is source line column =
      ap tokens_of (sym (rolls-SrcPos source line column)) ∙ fold-roll-Location A (List (Token A)) tokens_step (locations.SrcPos source line column)

  fused_is : (m : Option A) (ls : Vec (Location A) Global) →
      tokens_of (views.Fused m ls) ≡ sign (codes "fused") ∷ fused_tokens m (map tokens_of ls.items)
  fused_is m ls = ap tokens_of (sym (rolls-Fused m ls)) ∙ fold-roll-Location A (List (Token A)) tokens_step (locations.Fused m ls)

  named_is : (name : String Global) (child : Box (Location A) Global) →
      tokens_of (views.Named name child) ≡ sign (codes "named") ∷ named_tokens (string_bytes name) (tokens_of child.value)
  named_is name child = ap tokens_of (sym (rolls-Named name child)) ∙ fold-roll-Location A (List (Token A)) tokens_step (locations.Named name child)

  call_site_is : (x y : Box (Location A) Global) →
      tokens_of (views.CallSite x y) ≡ sign (codes "callsite") ∷ call_site_tokens (tokens_of x.value) (tokens_of y.value)
  call_site_is x y = ap tokens_of (sym (rolls-CallSite x y)) ∙ fold-roll-Location A (List (Token A)) tokens_step (locations.CallSite x y)

  unknown_is : tokens_of {A = A} variants.Unknown ≡ sign (codes "?") ∷ []
  unknown_is = ap tokens_of (sym rolls-Unknown) ∙ fold-roll-Location A (List (Token A)) tokens_step locations.Unknown

  pub place_printed : (source : Source) (line column : ℕ) (old a b new : List ℕ) → a ≡ old ++ source_text source →
      b ≡ (((a ++ codes ": ") ++ codes "line") ++ codes ": ") ++ decimal line →
      new ≡ (((b ++ codes ", ") ++ codes "column") ++ codes ": ") ++ decimal column → Adds old (tokens_of (variants.SrcPos source line column)) new
  place_printed source line column old a b new e h k =
      subst (λ ts. Adds old ts new) (sym (place_is source line column))
      (source_added source old a new (place_tokens line column) e (labelled_added 58 (codes "line") line a b new
      (separator 44 ∷ sign (codes "column") ∷ separator 58 ∷ number column ∷ []) h
      (labelled_added 44 (codes "column") column b new new [] k refl)))

  last_printed : (old a b new : List ℕ) (ts : List (Token A)) → a ≡ old ++ codes ", " → Adds a ts b → new ≡ b ++ codes "]" → Adds old (last_tokens ts) new
  last_printed old a b new ts e h k =
      (a, (codes ", ", refl, e), adds_both a b new ts (sign (codes "]") ∷ []) h (new, (codes "]", refl, k), refl))

  pub named_printed : (name : String Global) (child : Box (Location A) Global) (old a b c d new : List ℕ) → a ≡ old ++ codes "named[" →
      b ≡ a ++ encode_utf8_all (in_quotes (chars (string_bytes name))) → c ≡ b ++ codes ", " → Adds c (tokens_of child.value) d → new ≡ d ++ codes "]" →
      Adds old (tokens_of (views.Named name child)) new
  named_printed name child old a b c d new e h k inner end =
      subst (λ ts. Adds old ts new) (sym (named_is name child))
      (signs_added (codes "named") (codes "[") old a new (text (string_bytes name) ∷ last_tokens (tokens_of child.value)) e
      (b, (encode_utf8_all (in_quotes (chars (string_bytes name))), refl, h), last_printed b c d new (tokens_of child.value) k inner end))

  pub call_site_printed : (x y : Box (Location A) Global) (old a b c d new : List ℕ) → a ≡ old ++ codes "callsite[" →
      Adds a (tokens_of x.value) b → c ≡ b ++ codes ", " → Adds c (tokens_of y.value) d → new ≡ d ++ codes "]" →
      Adds old (tokens_of (views.CallSite x y)) new
  call_site_printed x y old a b c d new e inner k other end =
      subst (λ ts. Adds old ts new) (sym (call_site_is x y))
      (signs_added (codes "callsite") (codes "[") old a new (tokens_of x.value ++ last_tokens (tokens_of y.value)) e
      (adds_both a b new (tokens_of x.value) (last_tokens (tokens_of y.value)) inner (last_printed b c d new (tokens_of y.value) k other end)))

  pub unknown_printed : (old new : List ℕ) → new ≡ old ++ codes "?" → Adds old (tokens_of {A = A} variants.Unknown) new
  unknown_printed old new e = subst (λ ts. Adds old ts new) (sym unknown_is) (new, (codes "?", refl, e), refl)

  -- ---- the members of a list

  -- what is still to be printed of a list
  abbrev pub left_of : Bool → List (Location A) → List (Token A)
  left_of true ls = member_tokens (map tokens_of ls)
  left_of false ls = further_tokens (map tokens_of ls)

  pub member_added : (first : Bool) (l : Location A) (ls : List (Location A)) (old a b new : List ℕ) → a ≡ old ++ separator_before first →
      Adds a (tokens_of l) b → Adds b (left_of false ls) new → Adds old (left_of first (l ∷ ls)) new
  member_added true l ls old a b new e h k =
      adds_both old b new (tokens_of l) (further_tokens (map tokens_of ls)) (subst (λ m. Adds m (tokens_of l) b) (e ∙ append-nil old) h) k
  member_added false l ls old a b new e h k =
      (a, (codes ", ", refl, e), adds_both a b new (tokens_of l) (further_tokens (map tokens_of ls)) h k)

  pub list_ended : (first : Bool) (old new : List ℕ) → new ≡ old ++ codes "]" → Adds old (left_of first []) new
  list_ended true old new e = (new, (codes "]", refl, e), refl)
  list_ended false old new e = (new, (codes "]", refl, e), refl)

  pub fused_printed : (m : Option A) (ls : Vec (Location A) Global) (old a b c new : List ℕ) → a ≡ old ++ codes "fused" →
      Adds a (metadata_tokens m) b → c ≡ b ++ codes "[" → Adds c (left_of true ls.items) new → Adds old (tokens_of (views.Fused m ls)) new
  fused_printed m ls old a b c new e h k inner =
      subst (λ ts. Adds old ts new) (sym (fused_is m ls)) (
        a,
        (codes "fused", refl, e),
        adds_both a b new (metadata_tokens m) (sign (codes "[") ∷ member_tokens (map tokens_of ls.items)) h
            (c, (codes "[", refl, k), inner),
      )
