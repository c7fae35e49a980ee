-- A list that is printed member by member.
use Rattle.std.proofs.Common.{◌≡◌, ℕ, Bool, true, false, cond, ◌+◌, ◌<◌, ◌≤◌, suc, zero, length, drop, take, add-one, arith, List, [], ◌∷◌, ◌++◌, refl, sym, ap, ◌∙◌, subst}
use Rattle.std.specs.Prelude.{Option, Some, None, slice_get, option_map}
use Rattle.std.proofs.lemmas.List.{append_assoc, append-nil}
use Rattle.std.proofs.Math.ListN.{drop_of_length-le}
use Rattle.ir_print.specs.Layout.{Chunk, spell}
use Rattle.text_printing.specs.Printing.{AddsText}

-- The members X of a list show the parts U of a T, and `on` lays out a T, as the first of its list or behind others.
pub record IsRow {X U T : Type 0} (ShowsOne : X → U → Type 0) (Shows : List X → T → Type 0) (on : Bool → T → List Chunk → List Chunk) (part : U → List Chunk → List Chunk) (separator : List ℕ) : Type 0 where
  pub ends : (t : T) (b : Bool) (rest : List Chunk) → Shows [] t → on b t rest ≡ rest
  pub first : (x : X) (xs : List X) (t : T) → Shows (x ∷ xs) t → U
  pub others : (x : X) (xs : List X) (t : T) → Shows (x ∷ xs) t → T
  pub shown : (x : X) (xs : List X) (t : T) (h : Shows (x ∷ xs) t) → ShowsOne x (first x xs t h)
  pub shown_others : (x : X) (xs : List X) (t : T) (h : Shows (x ∷ xs) t) → Shows xs (others x xs t h)
  pub begins : (x : X) (xs : List X) (t : T) (h : Shows (x ∷ xs) t) (b : Bool) (rest : List Chunk) → spell (on b t rest) ≡ cond b [] separator ++ spell (part (first x xs t h) (on false (others x xs t h) rest))

-- What stands there, with what is left, is what stood there with the whole.
pub record IsOwed {X T : Type 0} (Shows : List X → T → Type 0) (on : Bool → T → List Chunk → List Chunk) (whole : T) (left : List X) (is_first : Bool) (old now : List ℕ) : Type 0 where
  pub tree : T
  pub shown : Shows left tree
  pub text : (rest : List Chunk) → now ++ spell (on is_first tree rest) ≡ old ++ spell (on true whole rest)

-- the same for each whole that the list shows
pub record Owed {X T : Type 0} (Shows : List X → T → Type 0) (on : Bool → T → List Chunk → List Chunk) (all left : List X) (is_first : Bool) (old now : List ℕ) : Type 0 where
  pub owed : (whole : T) → Shows all whole → IsOwed Shows on whole left is_first old now

-- printing adds this part
abbrev pub Prints : {X U : Type 0} → (X → U → Type 0) → (U → List Chunk → List Chunk) → X → List ℕ → List ℕ → Type 0
Prints {U = U} ShowsOne part x now next = (u : U) (rest : List Chunk) → ShowsOne x u → AddsText now next rest (part u rest)

-- the member at an index, and the others behind it
pub drop_at : {X : Type 0} (xs : List X) (i : ℕ) (x : X) → slice_get xs i ≡ Some x → drop i xs ≡ x ∷ drop (suc i) xs
drop_at [] i x h = absurd (cc)
drop_at (y ∷ xs) zero x h = let e : y ≡ x = cc in ap (λ z. z ∷ xs) e
drop_at (y ∷ xs) (suc i) x h = drop_at xs i x h

module _ {X U T : Type 0} {ShowsOne : X → U → Type 0} {Shows : List X → T → Type 0} {on : Bool → T → List Chunk → List Chunk} {part : U → List Chunk → List Chunk} {separator : List ℕ} (row : IsRow ShowsOne Shows on part separator) where
  pub owed_step : (all : List X) (x : X) (xs : List X) (b : Bool) (old now next : List ℕ) → Owed Shows on all (x ∷ xs) b old now → Prints ShowsOne part x (now ++ cond b [] separator) next → Owed Shows on all xs false old next
  owed_step all x xs b old now next o p = record { owed = λ whole h. step whole (o.owed whole h) }
    where
      step : (whole : T) → IsOwed Shows on whole (x ∷ xs) b old now → IsOwed Shows on whole xs false old next
      step whole w = record {
        tree = row.others x xs w.tree w.shown;
        shown = row.shown_others x xs w.tree w.shown;
        text = λ rest.
            p (row.first x xs w.tree w.shown) (on false (row.others x xs w.tree w.shown) rest) (row.shown x xs w.tree w.shown)
            ∙ append_assoc now (cond b [] separator) (spell (part (row.first x xs w.tree w.shown) (on false (row.others x xs w.tree w.shown) rest)))
            ∙ ap (λ s. now ++ s) (sym (row.begins x xs w.tree w.shown b rest)) ∙ w.text rest;
      }

  pub owed_end : (all : List X) (b : Bool) (old now : List ℕ) → Owed Shows on all [] b old now → (whole : T) (rest : List Chunk) → Shows all whole → AddsText old now rest (on true whole rest)
  owed_end all b old now o whole rest h = let w = o.owed whole h in ap (λ ps. now ++ spell ps) (sym (row.ends w.tree b rest w.shown)) ∙ w.text rest

  -- one iteration of a loop over the list, where the member is read by its index
  pub owed_at : (x : X) (all list : List X) (i : ℕ) (b : Bool) (old now mid next : List ℕ) → slice_get list i ≡ Some x → Owed Shows on all (drop i list) b old now → mid ≡ now ++ cond b [] separator
      → Prints ShowsOne part x mid next → Owed Shows on all (drop (i + 1) list) false old next
  owed_at x all list i b old now mid next at o e p =
      rw (add-one i) (owed_step all x (drop (suc i) list) b old now next
      (subst (λ xs. Owed Shows on all xs b old now) (drop_at list i x at) o)
      (subst (λ m. Prints ShowsOne part x m next) e p))

  -- and behind the loop
  pub owed_past : (all list : List X) (i : ℕ) (b : Bool) (old now : List ℕ) → length list ≤ i → Owed Shows on all (drop i list) b old now → (whole : T) (rest : List Chunk) → Shows all whole → AddsText old now rest (on true whole rest)
  owed_past all list i b old now le o = owed_end all b old now (subst (λ xs. Owed Shows on all xs b old now) (drop_of_length-le list le) o)

pub owed_start : {X T : Type 0} (Shows : List X → T → Type 0) (on : Bool → T → List Chunk → List Chunk) (all : List X) (old : List ℕ) → Owed Shows on all all true old old
owed_start Shows on all old = record { owed = λ whole h. record { tree = whole; shown = h; text = λ rest. refl } }

-- a text that was written, and then the rest
pub wrote : (now next s rest : List ℕ) → next ≡ now ++ s → next ++ rest ≡ now ++ (s ++ rest)
wrote now next s rest e = ap (λ xs. xs ++ rest) e ∙ append_assoc now s rest

-- the separator stands before each member but the first
pub separated : (s : List ℕ) (b : Bool) (now mid : List ℕ) → b ≡ false → mid ≡ now ++ s → mid ≡ now ++ cond b [] s
separated s b now mid e h = rw e h

pub not_separated : (s : List ℕ) (b : Bool) (now mid : List ℕ) → b ≡ true → mid ≡ now → mid ≡ now ++ cond b [] s
not_separated s b now mid e h = rw e (h ∙ sym (append-nil now))

-- what an optional value was made of
pub found : {X Y : Type 0} (g : X → Y) (o : Option X) (y : Y) → option_map g o ≡ Some y → (x : X) × (o ≡ Some x) × (g x ≡ y)
found g None y h = absurd (cc)
found g (Some x) y h = let e : g x ≡ y = cc in (x, refl, e)

-- the same element among the first ones
pub get_taken : {X : Type 0} (xs : List X) (i n : ℕ) (x : X) → slice_get xs i ≡ Some x → i < n → slice_get (take n xs) i ≡ Some x
get_taken [] i n x h lt = absurd (cc)
get_taken (y ∷ xs) i zero x h lt = absurd (omega arith)
get_taken (y ∷ xs) zero (suc n) x h lt = h
get_taken (y ∷ xs) (suc i) (suc n) x h lt = get_taken xs i n x h (omega arith)
