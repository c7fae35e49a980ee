-- Definitions that are settled, and what is open, one behind the other.
use Rattle.std.proofs.Common.{◌≡◌, ℕ, zero, suc, ◌+◌, ◌<◌, ◌⊎◌, inl, inr, List, [], ◌∷◌, ◌++◌, map, length, reverse, Option, Some, None, slice_get, refl, sym, ap, subst, ◌∙◌, arith, append_assoc, append-nil, length-append}
use Rattle.std.proofs.lemmas.List.{reverse-append, reverse-reverse}
use Rattle.text_frames.specs.Worlds.{joined}
use Rattle.ir_program.specs.declared.handles.BasicBlock.{BasicBlock}
use Rattle.ir_program.specs.declared.handles.Ptr.{Ptr}
use Rattle.ir_program.specs.declared.handles.Value.{Value}
use Rattle.ir_scopes.proofs.Apart.{get_append}
use Rattle.text_dialect.specs.Seen.{Seen}
use Rattle.text_frames.specs.building.Loose.{IsDefinedValue}
use Rattle.text_frames.specs.declared.opened.Open.{Open}
use Rattle.text_frames.specs.Raised.{blocks_of_body}
use Rattle.text_frames.specs.Worlds.{Rises, set_all}
use Rattle.text_frames.proofs.LaterWorlds.{get_left, get_right, KeepsEach, keeps_left, keeps_right, KeepsBlocks}
use Rattle.text_frames.proofs.Rising.{some_is, get_below, get_there, get_last, below_or, rises_to, rises_left, rises_right, rises_put, rises_other, set_all_length, set_all_other, set_all_at, set_all_from, set_all_keeps}
use Rattle.text_assembling.specs.declared.assembling.Assembler.{Assembler}
use Rattle.text_assembling.specs.Assembling.{numbers_of, blocks_of, AreSettled, NamesOne, Stage}
use Rattle.text_assembling.proofs.Lists.{concat_put, concat_empty, concat_two}

-- ---- definitions that are settled

-- What `AreSettled` says, of the numbers that wait and the values.
pub record Settled {K A T : Type 0} (s : Stage K A T) (ns : List ℕ) (values : List (Option Value)) (tokens : List ℕ) (counter : ℕ) : Type 0 where
  pub many : length tokens ≡ length values
  pub rise : Rises 0 ns (length values)
  pub waiting : (i n : ℕ) → slice_get ns i ≡ Some n → slice_get values n ≡ Some None
  pub settled : (n : ℕ) → n < length values → ((i : ℕ) × (slice_get ns i ≡ Some n)) ⊎ ((v : Value) × (slice_get values n ≡ Some (Some v)))
  pub distinct : (m n : ℕ) (v w : Value) → slice_get values m ≡ Some (Some v) → slice_get values n ≡ Some (Some w) → v.number ≡ w.number → m ≡ n
  pub live : (n : ℕ) (v : Value) → slice_get values n ≡ Some (Some v) → IsDefinedValue s.ctx v × (v.number < s.counter)
  pub counted : s.counter + length ns ≡ counter + length values

module _ {D K A T : Type 0} (s : Stage K A T) (a : Assembler D K A T) (ns : List ℕ) (values : List (Option Value)) (tokens : List ℕ) (counter : ℕ) where
  pub settled_of : numbers_of a ≡ ns → a.made.values.items ≡ values → AreSettled s a tokens counter → Settled s ns values tokens counter
  settled_of e k h =
      let all : Settled s (numbers_of a) a.made.values.items tokens counter =
      record { many = h.many; rise = h.rise; waiting = h.waiting; settled = h.settled; distinct = h.distinct; live = h.live; counted = h.counted } in
      subst (λ (xs : List ℕ). Settled s xs values tokens counter) e
      (subst (λ (xs : List (Option Value)). Settled s (numbers_of a) xs tokens counter) k all)

  pub are_settled : numbers_of a ≡ ns → a.made.values.items ≡ values → Settled s ns values tokens counter → AreSettled s a tokens counter
  are_settled e k h =
      let all : Settled s (numbers_of a) a.made.values.items tokens counter =
      subst (λ (xs : List ℕ). Settled s xs a.made.values.items tokens counter) (sym e)
      (subst (λ (xs : List (Option Value)). Settled s ns xs tokens counter) (sym k) h) in
      record { many = all.many; rise = all.rise; waiting = all.waiting; settled = all.settled; distinct = all.distinct; live = all.live; counted = all.counted }

module _ {K A T : Type 0} where
  -- the context may change where no value is made
  pub settled_later : (s t : Stage K A T) (ns : List ℕ) (values : List (Option Value)) (tokens : List ℕ) (counter : ℕ) → ((v : Value) → IsDefinedValue s.ctx v → IsDefinedValue t.ctx v)
      → t.counter ≡ s.counter → Settled s ns values tokens counter → Settled t ns values tokens counter
  settled_later s t ns values tokens counter keeps same h = record {
    many = h.many;
    rise = h.rise;
    waiting = h.waiting;
    settled = h.settled;
    distinct = h.distinct;
    live = λ n v e. (let x = h.live n v e in (keeps v x.0, omega (arith, x.1, same)));
    counted = omega (arith, h.counted, same);
  }

  -- one more definition is named
  pub settled_named : (s : Stage K A T) (ns : List ℕ) (values : List (Option Value)) (tokens : List ℕ) (counter k : ℕ) → Settled s ns values tokens counter
      → Settled s (ns ++ length values ∷ []) (values ++ None ∷ []) (tokens ++ k ∷ []) counter
  settled_named s ns values tokens counter k h = record {
    many = omega (arith, h.many, length-append tokens (k ∷ []), long);
    rise = rises_put 0 ns (length values) (length values) (length (values ++ None ∷ [])) h.rise (omega arith) (omega (arith, long));
    waiting = λ i n at. elim (get_append ns (length values ∷ []) i n at) [
      | inl e ↦ get_left values (None ∷ []) n None (h.waiting i n e)
      | inr e ↦ subst (λ (m : ℕ). slice_get (values ++ None ∷ []) m ≡ Some None) (lone (length values) e.0 n e.2) (get_last values None)
    ];
    settled = λ n lt. elim (which n lt) [
      | inl e ↦ elim (h.settled n e) [ inl x ↦ inl (x.0, get_left ns (length values ∷ []) x.0 n x.1) | inr x ↦ inr (x.0, get_left values (None ∷ []) n (Some x.0) x.1) ]
      | inr e ↦ inl (length ns, get_last ns (length values) ∙ ap (λ (m : ℕ). Some m) (sym e))
    ];
    distinct = λ m n v w at to same. h.distinct m n v w (old m v at) (old n w to) same;
    live = λ n v at. h.live n v (old n v at);
    counted = omega (arith, h.counted, length-append ns (length values ∷ []), long);
  }
    where
      long : length (values ++ None ∷ []) ≡ length values + 1
      long = length-append values (None ∷ [])

      lone : (x i n : ℕ) → slice_get (x ∷ []) i ≡ Some n → x ≡ n
      lone x zero n e = some_is x n e
      lone x (suc i) n e = cc

      which : (n : ℕ) → n < length (values ++ None ∷ []) → (n < length values) ⊎ (n ≡ length values)
      which n lt = below_or n (length values) (subst (λ (z : ℕ). n < z) long lt)

      none : (v : Value) (i : ℕ) → slice_get (None ∷ []) i ≡ Some (Some v) → ⊥
      none v zero e = let wrong : None ≡ Some v = some_is None (Some v) e in cc
      none v (suc i) e = cc

      old : (n : ℕ) (v : Value) → slice_get (values ++ None ∷ []) n ≡ Some (Some v) → slice_get values n ≡ Some (Some v)
      old n v at = elim (get_append values (None ∷ []) n (Some v) at) [ inl e ↦ e | inr e ↦ absurd (none v e.0 e.2) ]

  -- the last numbers that wait get values that are fresh
  pub settled_made : (s t : Stage K A T) (ms ns : List ℕ) (vs : List Value) (values : List (Option Value)) (tokens : List ℕ) (counter : ℕ) → length vs ≡ length ns
      → ((i : ℕ) (v : Value) → slice_get vs i ≡ Some v → IsDefinedValue t.ctx v × (v.number ≡ s.counter + i))
      → ((v : Value) → IsDefinedValue s.ctx v → IsDefinedValue t.ctx v) → t.counter ≡ s.counter + length vs
      → Settled s (ms ++ ns) values tokens counter → Settled t ms (set_all ns vs values) tokens counter
  settled_made s t ms ns vs values tokens counter many fresh keeps count h = record {
    many = omega (arith, h.many, long);
    rise = rises_to 0 (length values) (length (set_all ns vs values)) ms (omega (arith, long)) (rises_left 0 ms ns (length values) h.rise);
    waiting = λ i n at. set_all_other ns vs values n (λ j to. rises_other 0 ms ns (length values) i j n h.rise at to) ∙ h.waiting i n (get_left ms ns i n at);
    settled = λ n lt. elim (h.settled n (omega (arith, lt, long))) [
      | inl x ↦ elim (get_append ms ns x.0 n x.1) [ inl e ↦ inl (x.0, e) | inr e ↦ inr (given e.0 n e.2) ]
      | inr x ↦ inr (x.0, set_all_keeps ns vs values waits n x.0 x.1)
    ];
    distinct = λ m n v w at to same. alike m n v w (set_all_from ns vs values m v at) (set_all_from ns vs values n w to) same;
    live = λ n v at. elim (set_all_from ns vs values n v at) [
      | inl e ↦ (let x = h.live n v e in (keeps v x.0, omega (arith, x.1, count)))
      | inr e ↦ (let x = fresh e.0 v e.2 in let lt = get_below vs e.0 v e.2 in (x.0, omega (arith, x.1, lt, count)))
    ];
    counted = omega (arith, h.counted, count, many, long, length-append ms ns);
  }
    where
      long : length (set_all ns vs values) ≡ length values
      long = set_all_length ns vs values

      waits : (i n : ℕ) → slice_get ns i ≡ Some n → slice_get values n ≡ Some None
      waits i n at = let x = get_right ms ns i n at in h.waiting x.0 n x.1

      given : (i n : ℕ) → slice_get ns i ≡ Some n → (v : Value) × (slice_get (set_all ns vs values) n ≡ Some (Some v))
      given i n at =
          let lt = get_below ns i n at in
          let x = get_there vs i (omega (arith, lt, many)) in
          (x.0, set_all_at 0 ns (length values) vs values (rises_right 0 ms ns (length values) h.rise) (omega arith) i n x.0 at x.1)

      alike : (m n : ℕ) (v w : Value) → (slice_get values m ≡ Some (Some v)) ⊎ ((i : ℕ) × (slice_get ns i ≡ Some m) × (slice_get vs i ≡ Some v))
          → (slice_get values n ≡ Some (Some w)) ⊎ ((i : ℕ) × (slice_get ns i ≡ Some n) × (slice_get vs i ≡ Some w)) → v.number ≡ w.number → m ≡ n
      alike m n v w (inl x) (inl y) one = h.distinct m n v w x y one
      alike m n v w (inl x) (inr y) one = let old = h.live m v x in let new = fresh y.0 w y.2 in absurd (omega (arith, old.1, new.1, one))
      alike m n v w (inr x) (inl y) one = let new = fresh x.0 v x.2 in let old = h.live n w y in absurd (omega (arith, old.1, new.1, one))
      alike m n v w (inr x) (inr y) one =
          let first = fresh x.0 v x.2 in
          let second = fresh y.0 w y.2 in
          let same : x.0 ≡ y.0 = omega (arith, first.1, second.1, one) in
          some_is m n (sym x.1 ∙ (ap (λ (i : ℕ). slice_get ns i) same ∙ y.1))

-- ---- what is open

-- what was around, the innermost first, and then the last of it
pub last_around : {X : Type 0} (xs : List X) (g : X) (gs : List X) → reverse xs ≡ g ∷ gs → xs ≡ reverse gs ++ g ∷ []
last_around xs g gs e = sym (reverse-reverse xs) ∙ (ap reverse e ∙ reverse-append (g ∷ []) gs)

module _ {D K A T : Type 0} where
  -- the numbers and the blocks of what is around, and then those of what is innermost
  pub numbers_split : (a : Assembler D K A T) → numbers_of a ≡ joined (map (λ (f : Open D K A T). f.numbers.items) a.around.items) ++ a.here.numbers.items
  numbers_split a = concat_put (λ (f : Open D K A T). f.numbers.items) a.around.items a.here

  pub blocks_split : (a : Assembler D K A T) → blocks_of a ≡ joined (map (λ (f : Open D K A T). blocks_of_body f.body) a.around.items) ++ blocks_of_body a.here.body
  blocks_split a = concat_put (λ (f : Open D K A T). blocks_of_body f.body) a.around.items a.here

  -- the same of the two innermost
  pub numbers_split_two : (a : Assembler D K A T) (front : List (Open D K A T)) (g : Open D K A T) → a.around.items ≡ front ++ g ∷ []
      → numbers_of a ≡ joined (map (λ (f : Open D K A T). f.numbers.items) front) ++ (g.numbers.items ++ a.here.numbers.items)
  numbers_split_two a front g e =
      ap (λ (fs : List (Open D K A T)). joined (map (λ (f : Open D K A T). f.numbers.items) (fs ++ a.here ∷ []))) e ∙ concat_two (λ (f : Open D K A T). f.numbers.items) front g a.here

  pub blocks_split_two : (a : Assembler D K A T) (front : List (Open D K A T)) (g : Open D K A T) → a.around.items ≡ front ++ g ∷ []
      → blocks_of a ≡ joined (map (λ (f : Open D K A T). blocks_of_body f.body) front) ++ (blocks_of_body g.body ++ blocks_of_body a.here.body)
  blocks_split_two a front g e =
      ap (λ (fs : List (Open D K A T)). joined (map (λ (f : Open D K A T). blocks_of_body f.body) (fs ++ a.here ∷ []))) e ∙ concat_two (λ (f : Open D K A T). blocks_of_body f.body) front g a.here

  -- where what is innermost has others
  pub numbers_here : (a c : Assembler D K A T) → c.around.items ≡ a.around.items → c.here.numbers.items ≡ a.here.numbers.items → numbers_of c ≡ numbers_of a
  numbers_here a c e k =
      numbers_split c ∙ (ap (λ (fs : List (Open D K A T)). joined (map (λ (f : Open D K A T). f.numbers.items) fs) ++ c.here.numbers.items) e
      ∙ (ap (λ (ns : List ℕ). joined (map (λ (f : Open D K A T). f.numbers.items) a.around.items) ++ ns) k ∙ sym (numbers_split a)))

  pub blocks_here : (a c : Assembler D K A T) → c.around.items ≡ a.around.items → blocks_of_body c.here.body ≡ blocks_of_body a.here.body → blocks_of c ≡ blocks_of a
  blocks_here a c e k =
      blocks_split c ∙ (ap (λ (fs : List (Open D K A T)). joined (map (λ (f : Open D K A T). blocks_of_body f.body) fs) ++ blocks_of_body c.here.body) e
      ∙ (ap (λ (ns : List (Ptr BasicBlock)). joined (map (λ (f : Open D K A T). blocks_of_body f.body) a.around.items) ++ ns) k ∙ sym (blocks_split a)))

  -- where something with none begins
  pub numbers_begun : (a c : Assembler D K A T) → c.around.items ≡ a.around.items ++ a.here ∷ [] → c.here.numbers.items ≡ [] → numbers_of c ≡ numbers_of a
  numbers_begun a c e k =
      ap (λ (fs : List (Open D K A T)). joined (map (λ (f : Open D K A T). f.numbers.items) (fs ++ c.here ∷ []))) e
      ∙ concat_empty (λ (f : Open D K A T). f.numbers.items) (a.around.items ++ a.here ∷ []) c.here k

  pub blocks_begun : (a c : Assembler D K A T) → c.around.items ≡ a.around.items ++ a.here ∷ [] → blocks_of_body c.here.body ≡ [] → blocks_of c ≡ blocks_of a
  blocks_begun a c e k =
      ap (λ (fs : List (Open D K A T)). joined (map (λ (f : Open D K A T). blocks_of_body f.body) (fs ++ c.here ∷ []))) e
      ∙ concat_empty (λ (f : Open D K A T). blocks_of_body f.body) (a.around.items ++ a.here ∷ []) c.here k

  -- where something ends, and what was around it has the numbers or the blocks of both
  pub numbers_ended : (a c : Assembler D K A T) (g : Open D K A T) → a.around.items ≡ c.around.items ++ g ∷ [] → c.here.numbers.items ≡ g.numbers.items ++ a.here.numbers.items → numbers_of c ≡ numbers_of a
  numbers_ended a c g e k =
      numbers_split c ∙ (ap (λ (ns : List ℕ). joined (map (λ (f : Open D K A T). f.numbers.items) c.around.items) ++ ns) k ∙ sym (numbers_split_two a c.around.items g e))

  pub blocks_ended : (a c : Assembler D K A T) (g : Open D K A T) → a.around.items ≡ c.around.items ++ g ∷ [] → blocks_of_body c.here.body ≡ blocks_of_body g.body ++ blocks_of_body a.here.body → blocks_of c ≡ blocks_of a
  blocks_ended a c g e k =
      blocks_split c ∙ (ap (λ (ns : List (Ptr BasicBlock)). joined (map (λ (f : Open D K A T). blocks_of_body f.body) c.around.items) ++ ns) k ∙ sym (blocks_split_two a c.around.items g e))

  -- blocks of frames stay as they were where all of them do
  pub keeps_frames : (s t : Seen K A T) (fs : List (Open D K A T)) → KeepsEach s t (joined (map (λ (f : Open D K A T). blocks_of_body f.body) fs)) → KeepsBlocks s t fs
  keeps_frames s t [] h = tt
  keeps_frames s t (f ∷ fs) h =
      let rest = joined (map (λ (g : Open D K A T). blocks_of_body g.body) fs) in
      (keeps_left s t (blocks_of_body f.body) rest h, keeps_frames s t fs (keeps_right s t (blocks_of_body f.body) rest h))

  keeps_parts : (s t : Seen K A T) (fs gs : List (Open D K A T)) → KeepsBlocks s t fs → KeepsBlocks s t gs → KeepsBlocks s t (fs ++ gs)
  keeps_parts s t [] gs h k = k
  keeps_parts s t (f ∷ fs) gs h k = (h.0, keeps_parts s t fs gs h.1 k)

  keeps_reverse : (s t : Seen K A T) (fs : List (Open D K A T)) → KeepsBlocks s t fs → KeepsBlocks s t (reverse fs)
  keeps_reverse s t [] h = tt
  keeps_reverse s t (f ∷ fs) h =
      subst (λ (gs : List (Open D K A T)). KeepsBlocks s t gs) (sym (reverse-append (f ∷ []) fs)) (keeps_parts s t (reverse fs) (f ∷ []) (keeps_reverse s t fs h.1) (h.0, tt))

  -- the same of what is around, the innermost first
  pub keeps_around : (s t : Seen K A T) (fs : List (Open D K A T)) → KeepsEach s t (joined (map (λ (f : Open D K A T). blocks_of_body f.body) fs)) → KeepsBlocks s t (reverse fs)
  keeps_around s t fs h = keeps_reverse s t fs (keeps_frames s t fs h)

  -- one more definition is named
  pub settled_one : (s : Stage K A T) (a c : Assembler D K A T) (tokens : List ℕ) (counter k : ℕ) → c.around.items ≡ a.around.items → NamesOne a c → AreSettled s a tokens counter
      → AreSettled s c (tokens ++ k ∷ []) counter
  settled_one s a c tokens counter k e new h =
      let outer = joined (map (λ (f : Open D K A T). f.numbers.items) a.around.items) in
      let n = length a.made.values.items in
      let all : numbers_of c ≡ numbers_of a ++ n ∷ [] =
      numbers_split c ∙ (ap (λ (fs : List (Open D K A T)). joined (map (λ (f : Open D K A T). f.numbers.items) fs) ++ c.here.numbers.items) e
      ∙ (ap (λ (ns : List ℕ). outer ++ ns) new.numbers ∙ (sym (append_assoc outer a.here.numbers.items (n ∷ [])) ∙ ap (λ (ns : List ℕ). ns ++ n ∷ []) (sym (numbers_split a))))) in
      are_settled s c (numbers_of a ++ n ∷ []) (a.made.values.items ++ None ∷ []) (tokens ++ k ∷ []) counter all new.values
      (settled_named s (numbers_of a) a.made.values.items tokens counter k (settled_of s a (numbers_of a) a.made.values.items tokens counter refl refl h))

  -- what is named innermost gets values that are fresh
  pub settled_here : (s t : Stage K A T) (a c : Assembler D K A T) (tokens : List ℕ) (counter : ℕ) (vs : List Value) → c.around.items ≡ a.around.items → c.here.numbers.items ≡ []
      → c.made.values.items ≡ set_all a.here.numbers.items vs a.made.values.items → length vs ≡ length a.here.numbers.items
      → ((i : ℕ) (v : Value) → slice_get vs i ≡ Some v → IsDefinedValue t.ctx v × (v.number ≡ s.counter + i))
      → ((v : Value) → IsDefinedValue s.ctx v → IsDefinedValue t.ctx v) → t.counter ≡ s.counter + length vs → AreSettled s a tokens counter → AreSettled t c tokens counter
  settled_here s t a c tokens counter vs e none made many fresh keeps count h =
      let outer = joined (map (λ (f : Open D K A T). f.numbers.items) a.around.items) in
      let all : numbers_of c ≡ outer =
      numbers_split c ∙ (ap (λ (fs : List (Open D K A T)). joined (map (λ (f : Open D K A T). f.numbers.items) fs) ++ c.here.numbers.items) e
      ∙ (ap (λ (ns : List ℕ). outer ++ ns) none ∙ append-nil outer)) in
      are_settled t c outer (set_all a.here.numbers.items vs a.made.values.items) tokens counter all made
      (settled_made s t outer a.here.numbers.items vs a.made.values.items tokens counter many fresh keeps count
      (settled_of s a (outer ++ a.here.numbers.items) a.made.values.items tokens counter (numbers_split a) refl h))

  -- no definition is named or made
  pub settled_same : (s t : Stage K A T) (a c : Assembler D K A T) (tokens : List ℕ) (counter : ℕ) → numbers_of c ≡ numbers_of a → c.made.values.items ≡ a.made.values.items
      → ((v : Value) → IsDefinedValue s.ctx v → IsDefinedValue t.ctx v) → t.counter ≡ s.counter → AreSettled s a tokens counter → AreSettled t c tokens counter
  settled_same s t a c tokens counter e k keeps count h =
      are_settled t c (numbers_of a) a.made.values.items tokens counter e k
      (settled_later s t (numbers_of a) a.made.values.items tokens counter keeps count (settled_of s a (numbers_of a) a.made.values.items tokens counter refl refl h))
