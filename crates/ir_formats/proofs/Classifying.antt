-- The loop that cuts a text into tokens and numbers them.
use Rattle.std.proofs.Common.{◌≡◌, ◌≢◌, ℕ, ◌+◌, ◌<◌, ◌≤◌, List, [], ◌∷◌, ◌++◌, Bool, true, false, length, map, slice_index, refl, sym, ap, ◌∙◌, append_assoc, append-nil, arith, Vec, Result, Ok, Err}
use Rattle.std.specs.Prelude.{if◌then◌else◌, IfOk}
use Rattle.std.specs.Global.{Global}
use Rattle.std.specs.Char.{is_whitespace}
use Rattle.std.proofs.lemmas.List.{map-append, length-map}
use Rattle.ir_tokens.specs.declared.tokens.TokenKind.{TokenKind}
use Rattle.ir_tokens.specs.declared.tokens.TokenKind.TheVariants.{Name, Dotted, Digits, Negative, Mark, Text, Sign, Arrow, InMemory, Bad}
use Rattle.ir_tokens.specs.declared.tokens.Token.{Token}
use Rattle.ir_tokens.specs.Tokens.{IsToken, LastIfBad, ReadsAs, is_bad, starts_of}
use Rattle.ir_tokens.proofs.TokenSteps.{gap_more, token_more}
use Rattle.ir_formats.specs.declared.words.Classified.{Classified}
use Rattle.ir_formats.specs.Rules.{number_of, with_word, with_words}
use Rattle.ir_formats.specs.Spelling.{NumbersWords}
use Rattle.ir_formats.specs.Words.{text_of, is_spelled, spelled_texts, name_number, known_with, kind_of, AreClassified}
use Rattle.ir_formats.proofs.Spelled.{alike_by, numbered_all, numbered_with, numbers_known}

-- ---- numbers

-- After some tokens: the texts that are known, where the first ones were known before any token, the numbers of the words that they
-- are, and the kinds and the numbers of these tokens. Further texts change none of these.
pub record Numbering (words : List (List ℕ)) (cs : List ℕ) (first : List (List ℕ)) (ts : List Token)
    (known : List (List ℕ)) (found kinds names : List ℕ) : Type 0 where
  pub texts_known : (more : List Token)
      → with_words first (spelled_texts cs (ts ++ more)) ≡ with_words known (spelled_texts cs more)
  pub words_found : NumbersWords words known found
  pub kinds_are : kinds ≡ map (kind_of words cs) ts
  pub names_are : (more : List (List ℕ)) → names ≡ map (name_number (with_words known more) 0 cs) ts

-- a text that is put behind the known ones is one of those that come
texts_by : (known : List (List ℕ)) (text : List ℕ) (more : List (List ℕ)) (b : Bool)
    → with_words known (if b then text ∷ more else more) ≡ with_words (if b then with_word known text else known) more
texts_by known text more true = refl
texts_by known text more false = refl

-- the numbers of tokens stay
names_by : (cs : List ℕ) (known : List (List ℕ)) (text : List ℕ) (ts : List Token) (names : List ℕ) (b : Bool)
    → ((more : List (List ℕ)) → names ≡ map (name_number (with_words known more) 0 cs) ts)
    → (more : List (List ℕ))
    → names ≡ map (name_number (with_words (if b then with_word known text else known) more) 0 cs) ts
names_by cs known text ts names true h more = h (text ∷ more)
names_by cs known text ts names false h more = h more

-- the number of a text stays
name_by : (known more : List (List ℕ)) (text : List ℕ) (b : Bool)
    → (if b then number_of known text else 0)
    ≡ (if b then number_of (with_words (if b then with_word known text else known) more) text else 0)
name_by known more text true =
    sym (numbered_all (with_word known text) more text (number_of known text) (numbered_with known text)).is
name_by known more text false = refl

-- one value more behind those of the tokens before
value_more : (f : Token → ℕ) (ts : List Token) (t : Token) (xs : List ℕ) (x : ℕ) → xs ≡ map f ts → x ≡ f t
    → xs ++ x ∷ [] ≡ map f (ts ++ t ∷ [])
value_more f ts t xs x all one =
    ap (λ (ys : List ℕ). ys ++ x ∷ []) all
    ∙ (ap (λ (y : ℕ). map f ts ++ y ∷ []) one ∙ sym (map-append f ts (t ∷ [])))

-- one token more is numbered
numbering_more : (words : List (List ℕ)) (cs : List ℕ) (first : List (List ℕ)) (ts : List Token) (t : Token)
    (known known' : List (List ℕ)) (found found' kinds kinds' names names' : List ℕ) (kind name : ℕ)
    → Numbering words cs first ts known found kinds names → known' ≡ known_with known cs t → found' ≡ found
    → kind ≡ kind_of words cs t → name ≡ name_number known 0 cs t
    → kinds' ≡ kinds ++ kind ∷ [] → names' ≡ names ++ name ∷ []
    → Numbering words cs first (ts ++ t ∷ []) known' found' kinds' names'
numbering_more words cs first ts t known known' found found' kinds kinds' names names' kind name h know same is_kind
    is_name more_kinds more_names =
    let text : List ℕ = text_of cs t in
    record {
      texts_known = λ more. rw (append_assoc, know)
          (h.texts_known (t ∷ more) ∙ texts_by known text (spelled_texts cs more) (is_spelled t.kind));
      words_found = rw same (numbers_known words known known' cs t found know h.words_found);
      kinds_are = more_kinds ∙ value_more (kind_of words cs) ts t kinds kind h.kinds_are is_kind;
      names_are = λ more.
          let stay = names_by cs known text ts names (is_spelled t.kind) h.names_are more in
          let here = is_name ∙ name_by known more text (is_spelled t.kind) in
          rw know (more_names ∙ value_more (name_number (with_words (known_with known cs t) more) 0 cs) ts t names name stay here);
    }

-- before any token
numbering_none : (words : List (List ℕ)) (cs : List ℕ) (first : List (List ℕ)) (found : List ℕ)
    → NumbersWords words first found → Numbering words cs first [] first found [] []
numbering_none words cs first found h = record {
  texts_known = λ more. refl;
  words_found = h;
  kinds_are = refl;
  names_are = λ more. refl;
}

-- ---- places

-- Up to this place stand these tokens, none of which is bad, and they begin here.
pub record Cutting (cs : List ℕ) (at : ℕ) (ts : List Token) (starts : List ℕ) : Type 0 where
  pub inside : at ≤ length cs
  pub reads : (more : List Token) → ReadsAs cs at more → ReadsAs cs 0 (ts ++ more)
  pub places : (more : List Token) → starts_of cs (ts ++ more) ≡ starts ++ starts_of cs more

-- another kind than a bad token's passes no test for it
not_bad : (k : TokenKind) → k ≢ Bad → is_bad k ≡ false
not_bad Name n = refl
not_bad Dotted n = refl
not_bad Digits n = refl
not_bad Negative n = refl
not_bad Mark n = refl
not_bad Text n = refl
not_bad (Sign c) n = refl
not_bad Arrow n = refl
not_bad InMemory n = refl
not_bad Bad n = absurd (n refl)

-- one token more that isn't bad
cutting_more : (cs : List ℕ) (at : ℕ) (ts : List Token) (t : Token) (starts starts' : List ℕ)
    → Cutting cs at ts starts → t.start ≡ at → IsToken cs t → t.kind ≢ Bad → starts' ≡ starts ++ at ∷ []
    → Cutting cs t.end (ts ++ t ∷ []) starts'
cutting_more cs at ts t starts starts' h begins token n more_starts = record {
  inside = token.inside;
  reads = λ more r. rw append_assoc (h.reads (t ∷ more) (token_more cs at t more begins token n r));
  places = λ more. rw (append_assoc, more_starts, append_assoc) (h.places (t ∷ more)
      ∙ (ap (λ (b : Bool). starts ++ (t.start ∷ (if b then t.end ∷ [] else starts_of cs more))) (not_bad t.kind n)
      ∙ ap (λ (place : ℕ). starts ++ (place ∷ starts_of cs more)) begins));
}

-- behind a bad token stands what holds at the last
last_bad : (k : TokenKind) (p q : Type 0) → k ≡ Bad → p → LastIfBad k p q
last_bad k p q e h = rw e h

-- a bad token is the last
bad_last : (cs : List ℕ) (at : ℕ) (t : Token) → t.start ≡ at → IsToken cs t → t.kind ≡ Bad → ReadsAs cs at (t ∷ [])
bad_last cs at t e token bad = (omega arith, λ k lo hi. absurd (omega arith), token, last_bad t.kind _ _ bad refl)

-- ---- the loop

-- Up to this place the text is cut into tokens, none of which is bad, and these have their kinds and numbers.
pub record Classifying (words : List (List ℕ)) (cs : List ℕ) (first : List (List ℕ)) (at : ℕ) (known : List (List ℕ))
    (found starts kinds names : List ℕ) : Type 0 where
  pub done : List Token
  pub cut : Cutting cs at done starts
  pub numbered : Numbering words cs first done known found kinds names

-- at the beginning of the text no tokens are read
pub classifying_none : (words : List (List ℕ)) (cs : List ℕ) (first : List (List ℕ))
    (found starts kinds names : List ℕ) → NumbersWords words first found → starts ≡ [] → kinds ≡ [] → names ≡ []
    → Classifying words cs first 0 first found starts kinds names
classifying_none words cs first found starts kinds names h no_starts no_kinds no_names =
    rw (no_starts, no_kinds, no_names) record {
      done = [];
      cut = record { inside = omega arith; reads = λ more r. r; places = λ more. refl };
      numbered = numbering_none words cs first found h;
    }

-- white space is passed
pub classifying_gap : (words : List (List ℕ)) (cs : List ℕ) (first : List (List ℕ)) (at : ℕ) (known : List (List ℕ))
    (found starts kinds names : List ℕ) → at < length cs → is_whitespace (slice_index cs at) ≡ true
    → Classifying words cs first at known found starts kinds names
    → Classifying words cs first (at + 1) known found starts kinds names
classifying_gap words cs first at known found starts kinds names lt white h = record {
  done = h.done;
  cut = record {
    inside = omega arith;
    reads = λ more r. h.cut.reads more (gap_more cs at more white r);
    places = h.cut.places;
  };
  numbered = h.numbered;
}

-- one token more that isn't bad
pub classifying_more : (words : List (List ℕ)) (cs : List ℕ) (first : List (List ℕ)) (at : ℕ)
    (known known' : List (List ℕ)) (found found' starts starts' kinds kinds' names names' : List ℕ) (t : Token)
    (kind name : ℕ)
    → Classifying words cs first at known found starts kinds names → t.start ≡ at → IsToken cs t → t.kind ≢ Bad
    → known' ≡ known_with known cs t → found' ≡ found → kind ≡ kind_of words cs t → name ≡ name_number known 0 cs t
    → starts' ≡ starts ++ at ∷ [] → kinds' ≡ kinds ++ kind ∷ [] → names' ≡ names ++ name ∷ []
    → Classifying words cs first t.end known' found' starts' kinds' names'
classifying_more words cs first at known known' found found' starts starts' kinds kinds' names names' t kind name h
    begins token n know same is_kind is_name more_starts more_kinds more_names = record {
      done = h.done ++ t ∷ [];
      cut = cutting_more cs at h.done t starts starts' h.cut begins token n more_starts;
      numbered = numbering_more words cs first h.done t known known' found found' kinds kinds' names names' kind name
          h.numbered know same is_kind is_name more_kinds more_names;
    }

-- tokens with all that is known of them
classified : (words : List (List ℕ)) (cs : List ℕ) (first : List (List ℕ)) (ts : List Token) (known : List (List ℕ))
    (found starts kinds names : List ℕ) → ReadsAs cs 0 ts → starts ≡ starts_of cs ts
    → Numbering words cs first ts known found kinds names → AreClassified words cs ts starts kinds names
classified words cs first ts known found starts kinds names reads places h =
    let all : with_words first (spelled_texts cs ts) ≡ known =
    ap (λ (us : List Token). with_words first (spelled_texts cs us)) (sym (append-nil ts)) ∙ h.texts_known [] in
    let numbers : names ≡ map (name_number (with_words first (spelled_texts cs ts)) 0 cs) ts =
    rw all (h.names_are []) in
    record {
      tokens = reads;
      places = places;
      kinds = h.kinds_are;
      alike = alike_by cs first ts 0 names numbers;
      many = ap length numbers ∙ length-map ts (name_number (with_words first (spelled_texts cs ts)) 0 cs);
    }

-- at the end of the text all tokens are read
pub classifying_done : (words : List (List ℕ)) (cs : List ℕ) (first : List (List ℕ)) (at : ℕ) (known : List (List ℕ))
    (found starts kinds names : List ℕ) → length cs ≤ at
    → Classifying words cs first at known found starts kinds names
    → (ts : List Token) × AreClassified words cs ts (starts ++ at ∷ []) kinds names
classifying_done words cs first at known found starts kinds names le h =
    let here : at ≡ length cs = omega (arith, le, h.cut.inside) in
    let places : starts ++ at ∷ [] ≡ starts_of cs h.done =
    ap (λ (place : ℕ). starts ++ place ∷ []) here
    ∙ (sym (h.cut.places []) ∙ ap (starts_of cs) (append-nil h.done)) in (
      h.done,
      classified words cs first h.done known found (starts ++ at ∷ []) kinds names
          (rw append-nil at (h.cut.reads [] (λ k lo hi. absurd (omega arith)))) places h.numbered,
    )

-- at a bad token all tokens are read
pub classifying_bad : (words : List (List ℕ)) (cs : List ℕ) (first : List (List ℕ)) (at : ℕ)
    (known known' : List (List ℕ)) (found found' starts starts' kinds kinds' names names' : List ℕ) (t : Token)
    (kind name : ℕ)
    → Classifying words cs first at known found starts kinds names → t.start ≡ at → IsToken cs t → t.kind ≡ Bad
    → known' ≡ known_with known cs t → found' ≡ found → kind ≡ kind_of words cs t → name ≡ name_number known 0 cs t
    → starts' ≡ starts ++ at ∷ [] → kinds' ≡ kinds ++ kind ∷ [] → names' ≡ names ++ name ∷ []
    → (ts : List Token) × AreClassified words cs ts (starts' ++ t.end ∷ []) kinds' names'
classifying_bad words cs first at known known' found found' starts starts' kinds kinds' names names' t kind name h
    begins token bad know same is_kind is_name more_starts more_kinds more_names =
    let ends : is_bad t.kind ≡ true = ap is_bad bad in
    let last : starts_of cs (t ∷ []) ≡ at ∷ t.end ∷ [] =
    ap (λ (b : Bool). t.start ∷ (if b then t.end ∷ [] else length cs ∷ [])) ends
    ∙ ap (λ (place : ℕ). place ∷ t.end ∷ []) begins in
    let places : starts' ++ t.end ∷ [] ≡ starts_of cs (h.done ++ t ∷ []) =
    ap (λ (places : List ℕ). places ++ t.end ∷ []) more_starts
    ∙ (append_assoc starts (at ∷ []) (t.end ∷ [])
    ∙ (ap (λ (places : List ℕ). starts ++ places) (sym last) ∙ sym (h.cut.places (t ∷ [])))) in (
      h.done ++ t ∷ [],
      classified words cs first (h.done ++ t ∷ []) known' found' (starts' ++ t.end ∷ []) kinds' names'
          (h.cut.reads (t ∷ []) (bad_last cs at t begins token bad)) places
          (numbering_more words cs first h.done t known known' found found' kinds kinds' names names' kind name
          h.numbered know same is_kind is_name more_kinds more_names),
    )

-- what has ended is known by what it was before
pub classified_ended : {E : Type 0} (words : List (List ℕ)) (cs : List ℕ) (r : Result Classified E) (starts : List ℕ)
    (kinds : Vec ℕ Global) (names : List ℕ) → IfOk r (λ c. c.starts ≡ starts) → IfOk r (λ c. c.kinds ≡ kinds)
    → IfOk r (λ c. c.names ≡ names)
    → (ts : List Token) × AreClassified words cs ts starts kinds.items names
    → IfOk r (λ c. (ts : List Token) × AreClassified words cs ts c.starts c.kinds.items c.names)
classified_ended words cs (Ok c) starts kinds names is_starts is_kinds is_names h = rw (is_starts, is_kinds, is_names) h
classified_ended words cs (Err e) starts kinds names is_starts is_kinds is_names h = tt
