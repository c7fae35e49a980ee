-- A text is read in one way, and ends at one place.
use Rattle.std.proofs.Common.{◌≡◌, ℕ, true, ◌⊎◌, List, [], ◌∷◌, ◌++◌, Some, refl, sym, ap, subst, ◌∙◌, inl, inr}
use Rattle.std.specs.Prelude.{slice_get}
use Rattle.ir_print.specs.Formats.{word, operands, operand, successor, a_value, a_region, symbol_name, a_leaf, list_of, choice_of, Steps, no_steps, step, Choices, alternative, Kind, Formats, kinds_of}
use Rattle.ir_print.specs.declared.format.ValueSort.{ValueSort}
use Rattle.ir_print.specs.declared.format.LeafSort.{LeafSort}
use Rattle.ir_format_checks.specs.declared.check.FormatSort.{FormatSort}
use Rattle.ir_format_checks.specs.Tokens.{WrittenToken, Column, given, is_of, takes}
use Rattle.ir_format_checks.specs.Decided.{Follow, anything, tokens_of, all_firsts, one_firsts, next_of}
use Rattle.ir_format_checks.specs.Accepted.{behind, IsAccepted}
use Rattle.ir_format_readings.specs.Readings.{Item, token, region, column_of, Todo, rest, more, Event, took, member, ended, picks, says, names, symbol_steps, edge_steps, Derives, finished, no_step, a_word, an_operand, a_leaf_token, one_region, value, symbol, edge, several, no_member, a_member, no_more, one_more, picked, ReadsValue, ReadsBody, AreSame, HasOneReading, Always}
use Rattle.ir_format_readings.specs.Language.{IsAcceptedLanguage, allows, MayComeBehind}
use Rattle.ir_format_readings.proofs.Follows.{refuted, solid_begins, one_choice}
use Rattle.ir_format_readings.proofs.NextTokens.{nexts, AreDecidedTodos, in_member, in_next, in_choice, in_value, in_several, in_symbol, in_edge, next_is}

-- ---- a reading by what is read first

-- Reading takes an item, tells an event and goes on.
record Takes (f : Formats) (st : List Todo) (event : Event) (ts : List Item) (es : List Event) : Type 0 where
  item : Item
  items : List Item
  events : List Event
  text : ts ≡ item ∷ items
  told : es ≡ event ∷ events
  reads : Derives f st items events

after_none : {f : Formats} {ts : List Item} {es : List Event} → Derives f [] ts es → AreSame [] ts [] es
after_none finished = record { texts = refl; readings = refl }

after_done : {f : Formats} {st : List Todo} {es : List Event} {ts : List Item} → Derives f (rest no_steps ∷ st) ts es → Derives f st ts es
after_done (no_step d) = d

after_word : {f : Formats} {st : List Todo} {es : List Event} {printed w : List ℕ} {ss : Steps} {ts : List Item} → Derives f (rest (step (word printed w) ss) ∷ st) ts es
    → Takes f (rest ss ∷ st) took ts es
after_word (a_word {t = t} {ts = ts} {es = es} a d) = record { item = token t; items = ts; events = es; text = refl; told = refl; reads = d }

after_operand : {f : Formats} {st : List Todo} {es : List Event} {ss : Steps} {ts : List Item} → Derives f (rest (step operand ss) ∷ st) ts es → Takes f (rest ss ∷ st) took ts es
after_operand (an_operand {t = t} {ts = ts} {es = es} a d) = record { item = token t; items = ts; events = es; text = refl; told = refl; reads = d }

after_leaf : {f : Formats} {st : List Todo} {es : List Event} {sort : LeafSort} {ss : Steps} {ts : List Item} → Derives f (rest (step (a_leaf sort) ss) ∷ st) ts es
    → Takes f (rest ss ∷ st) took ts es
after_leaf (a_leaf_token {t = t} {ts = ts} {es = es} a d) = record { item = token t; items = ts; events = es; text = refl; told = refl; reads = d }

after_region : {f : Formats} {st : List Todo} {es : List Event} {ss : Steps} {ts : List Item} → Derives f (rest (step a_region ss) ∷ st) ts es → Takes f (rest ss ∷ st) took ts es
after_region (one_region {r = r} {ts = ts} {es = es} d) = record { item = region r; items = ts; events = es; text = refl; told = refl; reads = d }

after_symbol : {f : Formats} {st : List Todo} {es : List Event} {ss : Steps} {ts : List Item} → Derives f (rest (step symbol_name ss) ∷ st) ts es → Derives f (rest (symbol_steps ss) ∷ st) ts es
after_symbol (symbol d) = d

after_edge : {f : Formats} {st : List Todo} {es : List Event} {ss : Steps} {ts : List Item} → Derives f (rest (step successor ss) ∷ st) ts es → Derives f (rest (edge_steps ss) ∷ st) ts es
after_edge (edge d) = d

after_operands : {f : Formats} {st : List Todo} {es : List Event} {ss : Steps} {ts : List Item} → Derives f (rest (step operands ss) ∷ st) ts es → Derives f (rest (step names ss) ∷ st) ts es
after_operands (several d) = d

-- a value of a kind
record TakesValue (f : Formats) (sort : ValueSort) (ss : Steps) (st : List Todo) (ts : List Item) (es : List Event) : Type 0 where
  number : ℕ
  kind : Kind
  id : WrittenToken
  items : List Item
  events : List Event
  found : slice_get (kinds_of f sort) number ≡ Some kind
  named : id.text ≡ kind.id
  text : ts ≡ token id ∷ items
  told : es ≡ says number ∷ events
  reads : Derives f (rest kind.format ∷ rest ss ∷ st) items events

after_value : {f : Formats} {st : List Todo} {es : List Event} {sort : ValueSort} {ss : Steps} {ts : List Item} → Derives f (rest (step (a_value sort) ss) ∷ st) ts es
    → TakesValue f sort ss st ts es
after_value (value {t = t} {ts = ts} {es = es} i k e a same d) =
    record { number = i; kind = k; id = t; items = ts; events = es; found = e; named = same; text = refl; told = refl; reads = d }

after_list : {f : Formats} {st : List Todo} {es : List Event} {m ss : Steps} {printed w : List ℕ} {ts : List Item} → Derives f (rest (step (list_of m printed w) ss) ∷ st) ts es
    → ((fs : List Event) × (es ≡ ended ∷ fs) × Derives f (rest ss ∷ st) ts fs) ⊎ ((fs : List Event) × (es ≡ member ∷ fs) × Derives f (rest m ∷ more m w ∷ rest ss ∷ st) ts fs)
after_list (no_member {es = fs} d) = inl (fs, refl, d)
after_list (a_member {es = fs} d) = inr (fs, refl, d)

-- one more member of a list
record TakesMore (f : Formats) (m : Steps) (w : List ℕ) (st : List Todo) (ts : List Item) (es : List Event) : Type 0 where
  separator : WrittenToken
  items : List Item
  events : List Event
  is_separator : is_of (given w) separator ≡ true
  text : ts ≡ token separator ∷ items
  told : es ≡ member ∷ events
  reads : Derives f (rest m ∷ more m w ∷ st) items events

after_more : {f : Formats} {st : List Todo} {es : List Event} {m : Steps} {w : List ℕ} {ts : List Item} → Derives f (more m w ∷ st) ts es
    → ((fs : List Event) × (es ≡ ended ∷ fs) × Derives f st ts fs) ⊎ TakesMore f m w st ts es
after_more (no_more {es = fs} d) = inl (fs, refl, d)
after_more (one_more {t = t} {ts = us} {es = fs} a d) = inr (record { separator = t; items = us; events = fs; is_separator = a; text = refl; told = refl; reads = d })

after_choice : {f : Formats} {st : List Todo} {es : List Event} {cs : Choices} {ss : Steps} {ts : List Item} → Derives f (rest (step (choice_of cs) ss) ∷ st) ts es
    → (i : ℕ) × (a : Steps) × (fs : List Event) × (alternative cs i ≡ Some a) × (es ≡ picks i ∷ fs) × Derives f (rest a ∷ rest ss ∷ st) ts fs
after_choice (picked {a = a} {es = fs} i e d) = (i, a, fs, e, refl, d)

-- ---- what is the same

-- one event more
told_more : {ts us : List Item} {es fs gs : List Event} (e : Event) → gs ≡ e ∷ fs → AreSame ts us es fs → AreSame ts us (e ∷ es) gs
told_more e told h = record { texts = h.texts; readings = ap (λ z. e ∷ z) h.readings ∙ sym told }

-- one item and one event more
took_more : {i j : Item} {ts us vs : List Item} {es fs gs : List Event} (e : Event) → i ≡ j → vs ≡ j ∷ us → gs ≡ e ∷ fs → AreSame ts us es fs → AreSame (i ∷ ts) vs (e ∷ es) gs
took_more {i} {j} {ts} {us} e same text told h = record { texts = ap (λ z. z ∷ ts) same ∙ (ap (λ z. j ∷ z) h.texts ∙ sym text); readings = ap (λ z. e ∷ z) h.readings ∙ sym told }

-- what two texts begin with, and what follows
first_same : (i j : Item) (ts us vs r q : List Item) → (i ∷ ts) ++ r ≡ vs ++ q → vs ≡ j ∷ us → i ≡ j
first_same i j ts us vs r q e text = let whole : i ∷ (ts ++ r) ≡ j ∷ (us ++ q) = e ∙ ap (λ z. z ++ q) text in cc

left_same : (i j : Item) (ts us vs r q : List Item) → (i ∷ ts) ++ r ≡ vs ++ q → vs ≡ j ∷ us → ts ++ r ≡ us ++ q
left_same i j ts us vs r q e text = let whole : i ∷ (ts ++ r) ≡ j ∷ (us ++ q) = e ∙ ap (λ z. z ++ q) text in cc

-- ---- the law

module _ (f : Formats) (good : IsAcceptedLanguage f) (bottom : Follow Column) (r q : List Item)
    (may : allows bottom (column_of r) ≡ true) (can : allows bottom (column_of q) ≡ true) where
  -- a list doesn't both begin and end at a token
  begun_or_ended : (m ss : Steps) (printed w : List ℕ) (st : List Todo) (x : Column) → AreDecidedTodos bottom (rest (step (list_of m printed w) ss) ∷ st)
      → allows (nexts bottom (rest ss ∷ st)) x ≡ true → allows (nexts bottom (rest m ∷ more m w ∷ rest ss ∷ st)) x ≡ true → ⊥
  begun_or_ended m ss printed w st x d ends begins =
      refuted (all_firsts m) (next_of ss (nexts bottom st)) d.0.0.1 x (solid_begins m (nexts bottom (more m w ∷ rest ss ∷ st)) x d.0.0.0 begins) ends

  -- nor does it both go on and end
  on_or_ended : (m : Steps) (w : List ℕ) (st : List Todo) (x : Column) → AreDecidedTodos bottom (more m w ∷ st) → takes x (given w) ≡ true → allows (nexts bottom st) x ≡ true → ⊥
  on_or_ended m w st x d a ends = refuted (tokens_of (given w)) (nexts bottom st) d.1 x a ends

  -- the next token of the first text, and that of the second
  here : (st : List Todo) (ts : List Item) (es : List Event) → Derives f st ts es → AreDecidedTodos bottom st → allows (nexts bottom st) (column_of (ts ++ r)) ≡ true
  here st ts es d g = next_is f good bottom r may st ts es d g

  there : (st : List Todo) (ts us : List Item) (es : List Event) → ts ++ r ≡ us ++ q → Derives f st us es → AreDecidedTodos bottom st
      → allows (nexts bottom st) (column_of (ts ++ r)) ≡ true
  there st ts us es same d g = subst (λ z. allows (nexts bottom st) (column_of z) ≡ true) (sym same) (next_is f good bottom q can st us es d g)

  pub one_reading : (st : List Todo) (ts us : List Item) (es fs : List Event) → Derives f st ts es → Derives f st us fs → ts ++ r ≡ us ++ q → AreDecidedTodos bottom st → AreSame ts us es fs
  one_reading _ _ us _ fs finished e w d = after_none e
  one_reading _ _ us _ fs (no_step p) e w d = one_reading _ _ us _ fs p (after_done e) w d.1
  one_reading _ _ us _ fs (a_word {t = t} {ts = ts} a p) e w d = let x = after_word e in
      took_more took (first_same (token t) x.item ts x.items us r q w x.text) x.text x.told
      (one_reading _ ts x.items _ x.events p x.reads (left_same (token t) x.item ts x.items us r q w x.text) (d.0.1, d.1))
  one_reading _ _ us _ fs (an_operand {t = t} {ts = ts} a p) e w d = let x = after_operand e in
      took_more took (first_same (token t) x.item ts x.items us r q w x.text) x.text x.told
      (one_reading _ ts x.items _ x.events p x.reads (left_same (token t) x.item ts x.items us r q w x.text) (d.0.1, d.1))
  one_reading _ _ us _ fs (a_leaf_token {t = t} {ts = ts} a p) e w d = let x = after_leaf e in
      took_more took (first_same (token t) x.item ts x.items us r q w x.text) x.text x.told
      (one_reading _ ts x.items _ x.events p x.reads (left_same (token t) x.item ts x.items us r q w x.text) (d.0.1, d.1))
  one_reading _ _ us _ fs (one_region {r = i} {ts = ts} p) e w d = let x = after_region e in
      took_more took (first_same (region i) x.item ts x.items us r q w x.text) x.text x.told
      (one_reading _ ts x.items _ x.events p x.reads (left_same (region i) x.item ts x.items us r q w x.text) (d.0.1, d.1))
  one_reading _ _ us _ fs (symbol {ss = ss} {st = st} p) e w d = one_reading _ _ us _ fs p (after_symbol e) w (in_symbol f good bottom ss st d)
  one_reading _ _ us _ fs (edge {ss = ss} {st = st} p) e w d = one_reading _ _ us _ fs p (after_edge e) w (in_edge f good bottom ss st d)
  one_reading _ _ us _ fs (several {ss = ss} {st = st} p) e w d = one_reading _ _ us _ fs p (after_operands e) w (in_several f good bottom ss st d)
  one_reading _ _ us _ fs (value {sort = sort} {t = t} {ss = ss} {st = st} {ts = ts} i k g a id p) e w d =
      let x = after_value e in
      let first : token t ≡ token x.id = first_same (token t) (token x.id) ts x.items us r q w x.text in
      let token_same : t ≡ x.id = cc in
      let same : i ≡ x.number = good.distinct sort i x.number k x.kind g x.found (sym id ∙ (ap (λ (z : WrittenToken). z.text) token_same ∙ x.named)) in
      let alike : x.kind ≡ k = let h = x.found in cc in
      took_more (says i) first x.text (x.told ∙ ap (λ z. says z ∷ x.events) (sym same))
      (one_reading _ ts x.items _ x.events p (subst (λ (z : Kind). Derives f (rest z.format ∷ rest ss ∷ st) x.items x.events) alike x.reads)
      (left_same (token t) (token x.id) ts x.items us r q w x.text) (in_value f good bottom sort i k ss st g d))
  one_reading _ ts us _ fs (no_member {m = m} {ss = ss} {printed = printed} {w = sep} {st = st} p) e w d = elim (after_list e) [
    | inl x ↦ told_more ended x.1 (one_reading _ ts us _ x.0 p x.2 w (d.0.1, d.1))
    | inr x ↦ absurd (begun_or_ended m ss printed sep st (column_of (ts ++ r)) d (here _ ts _ p (d.0.1, d.1)) (there _ ts us x.0 w x.2 (in_member f good bottom m ss printed sep st d)))
  ]
  one_reading _ ts us _ fs (a_member {m = m} {ss = ss} {printed = printed} {w = sep} {st = st} p) e w d = elim (after_list e) [
    | inl x ↦ absurd (begun_or_ended m ss printed sep st (column_of (ts ++ r)) d (there _ ts us x.0 w x.2 (d.0.1, d.1)) (here _ ts _ p (in_member f good bottom m ss printed sep st d)))
    | inr x ↦ told_more member x.1 (one_reading _ ts us _ x.0 p x.2 w (in_member f good bottom m ss printed sep st d))
  ]
  one_reading _ ts us _ fs (no_more {m = m} {w = sep} {st = st} p) e w d = elim (after_more e) [
    | inl x ↦ told_more ended x.1 (one_reading _ ts us _ x.0 p x.2 w d.3)
    | inr x ↦ let next : ts ++ r ≡ token x.separator ∷ (x.items ++ q) = w ∙ ap (λ z. z ++ q) x.text in
        absurd (on_or_ended m sep st (Some x.separator) d x.is_separator (subst (λ z. allows (nexts bottom st) (column_of z) ≡ true) next (here _ ts _ p d.3)))
  ]
  one_reading _ _ us _ fs (one_more {m = m} {w = sep} {t = t} {st = st} {ts = ts} a p) e w d = elim (after_more e) [
    | inl x ↦ absurd (on_or_ended m sep st (Some t) d a (there st (token t ∷ ts) us x.0 w x.2 d.3))
    | inr x ↦ took_more member (first_same (token t) (token x.separator) ts x.items us r q w x.text) x.text x.told
        (one_reading _ ts x.items _ x.events p x.reads (left_same (token t) (token x.separator) ts x.items us r q w x.text) (in_next f good bottom m sep st d))
  ]
  one_reading _ ts us _ fs (picked {cs = cs} {ss = ss} {a = a} {st = st} i g p) e w d =
      let x = after_choice e in
      let t = in_choice f good bottom cs ss a st i g d in
      let u = in_choice f good bottom cs ss x.1 st x.0 x.3 d in
      let same : i ≡ x.0 = one_choice cs (next_of ss (nexts bottom st)) (column_of (ts ++ r)) i x.0 a x.1 d.0.0.1
      (λ z o k. refuted (one_firsts cs) (next_of ss (nexts bottom st)) (d.0.0.0 z) (column_of (ts ++ r)) o k) g x.3 (here _ ts _ p t) (there _ ts us x.2 w x.5 u) in
      let alike : x.1 ≡ a = cc in
      told_more (picks i) (x.4 ∙ ap (λ z. picks z ∷ x.2) (sym same))
      (one_reading _ ts us _ x.2 p (subst (λ z. Derives f (rest z ∷ rest ss ∷ st) us x.2) alike x.5) w t)

module _ (f : Formats) (good : IsAcceptedLanguage f) where
  pub value_once : (sort : ValueSort) → HasOneReading (ReadsValue f sort) Always
  value_once sort ts us r q es fs p e may can w = one_reading f good anything r q refl refl _ ts us es fs p e w ((tt, tt), tt)

  pub body_once : (sort : FormatSort) (format : Steps) → IsAccepted sort format → HasOneReading (ReadsBody f format) (MayComeBehind sort)
  body_once sort format h ts us r q es fs p e may can w = one_reading f good (behind sort) r q may can _ ts us es fs p e w (h.decided, tt)
