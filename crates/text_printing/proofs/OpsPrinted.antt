-- What printing a part of an operation adds.
use Rattle.std.proofs.Common.{◌≡◌, ℕ, ◌+◌, ◌-◌, ◌<◌, ◌≤◌, ◌⊎◌, inl, inr, suc, zero, length, take, drop, List, [], ◌∷◌, ◌++◌, refl, sym, ap, ◌∙◌, subst, arith, add-one}
use Rattle.std.specs.Prelude.{Some, slice_get, codes}
use Rattle.std.proofs.lemmas.Bool.{cases_lt}
use Rattle.std.proofs.lemmas.List.{drop-drop, drop-take, length-drop, length-take}
use Rattle.std.proofs.Math.ListN.{drop_of_length-le}
use Rattle.ir_names.specs.Tree.{node}
use Rattle.ir_program.specs.declared.handles.Ptr.{Ptr}
use Rattle.ir_program.specs.declared.handles.Region.{Region}
use Rattle.ir_program.specs.declared.handles.BasicBlock.{BasicBlock}
use Rattle.ir_program.specs.declared.handles.Value.{Value}
use Rattle.ir_print.specs.declared.format.Part.{Part, Part-F, out-Part}
use Rattle.ir_print.specs.declared.format.ValueSort.TheVariants as sorts
use Rattle.ir_print.specs.declared.format.Part.TheVariants as part
use Rattle.ir_print.specs.declared.format.Part.TheVariants.{outs-Operands, outs-Successor, outs-Region}
use Rattle.text_printing.specs.declared.operations.Progress.{Progress}
use Rattle.ir_print.specs.Formats.{Formats, Step}
use Rattle.ir_print.specs.Layout.{Chunk, white, token, spell, Before, a_part, gap_of_part, piece_on, operands_on, edge_on, first_region_on, regions_on, names_on, Deeper, IsFlat, AreShallow}
use Rattle.text_printing.specs.PartPrinted.{other_entities, gapped_on, before_after, AreLeft, IsPartPrinted, PartPrinted}
use Rattle.ir_print.specs.Pieces.{value_of_kind, list, item, chosen, operands, successor, region, leaf, ValueTree, operation, a_region, block, entity, Entities, no_entity, an_entity}
use Rattle.text_dialect.specs.Seen.{SeenBlock, Seen}
use Rattle.text_dialect.specs.Printed.{IsValueName, block_name, label_front, printed_names}
use Rattle.text_printing.specs.Added.{AddsOperandNames, AddsEdge, AddsRegion, PrintsRegions}
use Rattle.text_printing.specs.Printing.{before_of, AddsText, IsReadable}
use Rattle.ir_print.specs.Shown.{Saying, Pairs, ShowsPart}
use Rattle.text_printing.proofs.KindsPrinted.{part_sort, sort_in, part_sorts}
use Rattle.text_printing.proofs.Owed.{wrote, drop_at}
use Rattle.text_printing.proofs.ValuesOwed.{PrintsPart}

module _ {X U : Type 0} (R : X → U → Type 0) where
  pub pairs_take : (n : ℕ) (xs : List X) (us : List U) → Pairs R xs us → Pairs R (take n xs) (take n us)
  pairs_take zero xs us h = tt
  pairs_take (suc n) [] [] h = tt
  pairs_take (suc n) [] (u ∷ us) h = absurd h
  pairs_take (suc n) (x ∷ xs) [] h = absurd h
  pairs_take (suc n) (x ∷ xs) (u ∷ us) h = (h.0, pairs_take n xs us h.1)

  pub pairs_drop : (n : ℕ) (xs : List X) (us : List U) → Pairs R xs us → Pairs R (drop n xs) (drop n us)
  pairs_drop zero xs us h = h
  pairs_drop (suc n) [] [] h = tt
  pairs_drop (suc n) [] (u ∷ us) h = absurd h
  pairs_drop (suc n) (x ∷ xs) [] h = absurd h
  pairs_drop (suc n) (x ∷ xs) (u ∷ us) h = pairs_drop n xs us h.1

  pub pairs_length : (xs : List X) (us : List U) → Pairs R xs us → length xs ≡ length us
  pairs_length [] [] h = refl
  pairs_length [] (u ∷ us) h = absurd h
  pairs_length (x ∷ xs) [] h = absurd h
  pairs_length (x ∷ xs) (u ∷ us) h = ap suc (pairs_length xs us h.1)

take_all : {X : Type 0} (n : ℕ) (xs : List X) → length xs ≤ n → take n xs ≡ xs
take_all zero [] h = refl
take_all (suc n) [] h = refl
take_all zero (x ∷ xs) h = absurd (omega arith)
take_all (suc n) (x ∷ xs) h = ap (λ ys. x ∷ ys) (take_all n xs (omega arith))

-- the first ones up to a place are so many from another on, where there are so many
taken_is : {X : Type 0} (xs : List X) (k n to : ℕ) → k ≤ to → to ≤ k + n → (to < length xs → to ≡ k + n) → drop k (take to xs) ≡ take n (drop k xs)
taken_is xs k n to kt tn full =
    let m = to - k in
    let e : to ≡ k + m = omega arith in
    let long : (drop k (take to xs) ≡ take m (drop k xs)) = ap (λ i. drop k (take i xs)) e ∙ drop-take k m xs in
    long ∙ elim (cases_lt to (length xs)) [
      | inl lt ↦ (let s : m ≡ n = omega (arith, full lt) in ap (λ i. take i (drop k xs)) s)
      | inr ge ↦ take_all m (drop k xs) (omega (arith, length-drop k xs)) ∙ sym (take_all n (drop k xs) (omega (arith, length-drop k xs)))
    ]

left_is : {X : Type 0} (xs : List X) (k n to : ℕ) → to ≤ k + n → (to < length xs → to ≡ k + n) → drop to xs ≡ drop n (drop k xs)
left_is xs k n to tn full =
    elim (cases_lt to (length xs)) [
      | inl lt ↦ ap (λ i. drop i xs) (full lt) ∙ sym (drop-drop n k xs)
      | inr ge ↦ drop_of_length-le xs ge ∙ sym (drop_of_length-le (drop k xs) (omega (arith, length-drop k xs)))
    ]

-- the same from one place on, which may be a later one than the first ones end at
taken_from : {X : Type 0} (xs : List X) (k n from to : ℕ) → from ≤ k → from ≤ to → (from < k → from ≡ to) → to ≤ k + n → (to < length xs → to ≡ k + n) → drop from (take to xs) ≡ take n (drop k xs)
taken_from xs k n from to fk ft early tn full = elim (cases_lt from k) [
  | inl lt ↦ (
      let e : from ≡ to = early lt in
      let past : length xs ≤ to = elim (cases_lt to (length xs)) [ inl less ↦ absurd (omega (arith, e, lt, full less)) | inr ge ↦ ge ] in
      let none : drop k xs ≡ [] = drop_of_length-le xs (omega (arith, e, lt, past)) in
      drop_of_length-le (take to xs) (omega (arith, e, length-take to xs)) ∙ sym none
      ∙ sym (take_all n (drop k xs) (omega (arith, e, lt, past, length-drop k xs)))
      )
  | inr ge ↦ (let e : from ≡ k = omega (arith, fk, ge) in ap (λ i. drop i (take to xs)) e ∙ taken_is xs k n to (omega (arith, e, ft)) tn full)
]

-- names that are printed, if there are any
names_gapped : (before : Before) (s : Step) (us : List (List ℕ)) (rest : List Chunk) → 0 < length us → gapped_on before s (operands_on us) rest ≡ white (gap_of_part before) ∷ names_on us rest
names_gapped before s [] rest lt = absurd (omega arith)
names_gapped before s (u ∷ us) rest lt = refl

names_before : (before : Before) (us : List (List ℕ)) → 0 < length us → before_after before (operands_on us) ≡ a_part
names_before before [] lt = absurd (omega arith)
names_before before (u ∷ us) lt = refl

no_names : (us : List (List ℕ)) (n : ℕ) → (n ≡ 0) ⊎ (length us ≡ 0) → (take n us ≡ []) × (drop n us ≡ us)
no_names us zero h = (refl, refl)
no_names [] (suc n) h = (refl, refl)
no_names (u ∷ us) (suc n) (inl h) = absurd (omega arith)
no_names (u ∷ us) (suc n) (inr h) = absurd (omega arith)

module _ {D K A T : Type 0} (says : Saying K A T) (f : Formats) (s : Seen K A T) (values : List Value) (its_successors : List (Ptr BasicBlock)) (its_regions : List (Ptr Region))
    (at : Step) (p : Part D K A T) (indent left : ℕ) (progress after : Progress) where
  -- operands, if there are any
  pub operands_printed : (n : ℕ) (a b c : List ℕ) → p ≡ part.Operands n → progress.operands < after.operands → after.operands ≤ progress.operands + n → after.operands ≤ length values
      → (after.operands < length values → after.operands ≡ progress.operands + n) → before_of after.before ≡ a_part → after.successors ≡ progress.successors → after.regions ≡ progress.regions → b ≡ a ++ gap_of_part (before_of progress.before)
      → AddsOperandNames (drop progress.operands (take after.operands values)) b c
      → PartPrinted says s values its_successors its_regions left f indent at p progress after a c
  operands_printed n a b c e some tn within full eb eg er gap print = record { printed = one }
    where
      one : (t : ValueTree) (us ls : List (List ℕ)) (es : Entities (List ℕ)) (rest : List Chunk) → ShowsPart says s.types p t → IsFlat left t → IsReadable 64 t
          → AreLeft says s values its_successors its_regions left progress.operands progress.successors progress.regions us ls es → IsPartPrinted says s values its_successors its_regions left f indent at t us ls es (before_of progress.before) after rest a c
      one (node (operands m) ts) us ls es rest h k r w =
          let vs = values in
          let o : Part-F.Operands n ≡ Part-F.Operands m = sym (outs-Operands {X1 = D} {X2 = K} {X3 = A} {X4 = T} n) ∙ ap (out-Part D K A T) (sym e ∙ h) ∙ outs-Operands m in
          let en : n ≡ m = cc in
          let taken : drop progress.operands (take after.operands vs) ≡ take m (drop progress.operands vs) = taken_is vs progress.operands m after.operands (omega arith) (omega arith) (λ lt. full lt ∙ ap (λ i. progress.operands + i) en) in
          let shown : Pairs IsValueName (drop progress.operands (take after.operands vs)) (take m us) = subst (λ xs. Pairs IsValueName xs (take m us)) (sym taken) (pairs_take IsValueName m (drop progress.operands vs) us w.operands) in
          let many : 0 < length (take m us) = omega (arith, pairs_length IsValueName (drop progress.operands (take after.operands vs)) (take m us) shown, length-drop progress.operands (take after.operands vs), length-take after.operands vs) in
          record {
            text = print (take m us) rest shown ∙ wrote a b (gap_of_part (before_of progress.before)) (spell (names_on (take m us) rest)) gap ∙ ap (λ cs. a ++ spell cs) (sym (names_gapped (before_of progress.before) at (take m us) rest many));
            before_is = eb ∙ sym (names_before (before_of progress.before) (take m us) many);
            are_left = record {
              operands = subst (λ xs. Pairs IsValueName xs (drop m us)) (sym (left_is vs progress.operands m after.operands (omega arith) (λ lt. full lt ∙ ap (λ i. progress.operands + i) en))) (pairs_drop IsValueName m (drop progress.operands vs) us w.operands);
              successors = subst (λ i. Pairs (printed_names s).block (drop i its_successors) ls) (sym eg) w.successors;
              regions = subst (λ i. PrintsRegions says s (drop i its_regions) es) (sym er) w.regions;
              shallow = w.shallow;
            };
          }
      one (node (value_of_kind sorts.«Type» kind) ts) us ls es rest h k r w = absurd (omega (arith, part_sorts says s.types p (value_of_kind sorts.«Type» kind) ts h, ap (sort_in says s.types) e ∙ ap part_sort (outs-Operands {X1 = D} {X2 = K} {X3 = A} {X4 = T} n)))
      one (node (value_of_kind sorts.Attribute kind) ts) us ls es rest h k r w = absurd (omega (arith, part_sorts says s.types p (value_of_kind sorts.Attribute kind) ts h, ap (sort_in says s.types) e ∙ ap part_sort (outs-Operands {X1 = D} {X2 = K} {X3 = A} {X4 = T} n)))
      one (node q ts) us ls es rest h k r w = absurd (omega (arith, part_sorts says s.types p q ts h, ap (sort_in says s.types) e ∙ ap part_sort (outs-Operands {X1 = D} {X2 = K} {X3 = A} {X4 = T} n)))

  -- a type, an attribute or another part that stands for itself
  pub piece_printed : (a b c : List ℕ) → ((n : ℕ) → p ≡ part.Operands n → ⊥) → ((n : ℕ) → p ≡ part.Successor n → ⊥) → (p ≡ part.Region → ⊥) → before_of after.before ≡ a_part → after.operands ≡ progress.operands
      → after.successors ≡ progress.successors → after.regions ≡ progress.regions
      → b ≡ a ++ gap_of_part (before_of progress.before) → PrintsPart says s.types f left 64 p at b c → PartPrinted says s values its_successors its_regions left f indent at p progress after a c
  piece_printed a b c no_operands no_edge no_region eb eo eg er gap print = record { printed = one }
    where
      same : {us ls : List (List ℕ)} {es : Entities (List ℕ)} → AreLeft says s values its_successors its_regions left progress.operands progress.successors progress.regions us ls es → AreLeft says s values its_successors its_regions left after.operands after.successors after.regions us ls es
      same w = rw (eo, eg, er) w

      plain : (t : ValueTree) (rest : List Chunk) → ShowsPart says s.types p t → IsFlat left t → IsReadable 64 t → AddsText a c rest (white (gap_of_part (before_of progress.before)) ∷ piece_on f t at rest)
      plain t rest h k r = print t rest h k r ∙ wrote a b (gap_of_part (before_of progress.before)) (spell (piece_on f t at rest)) gap

      one : (t : ValueTree) (us ls : List (List ℕ)) (es : Entities (List ℕ)) (rest : List Chunk) → ShowsPart says s.types p t → IsFlat left t → IsReadable 64 t
          → AreLeft says s values its_successors its_regions left progress.operands progress.successors progress.regions us ls es → IsPartPrinted says s values its_successors its_regions left f indent at t us ls es (before_of progress.before) after rest a c
      one (node (operands m) ts) us ls es rest h k r w = absurd (no_operands m h)
      one (node (successor m) ts) us ls es rest h k r w = absurd (no_edge m h)
      one (node region ts) us ls es rest h k r w = absurd (no_region h)
      one (node (value_of_kind sort n) ts) us ls es rest h k r w = record { text = plain (node (value_of_kind sort n) ts) rest h k r; before_is = eb; are_left = same w }
      one (node list ts) us ls es rest h k r w = record { text = plain (node list ts) rest h k r; before_is = eb; are_left = same w }
      one (node item ts) us ls es rest h k r w = absurd h
      one (node (chosen n) ts) us ls es rest h k r w = record { text = plain (node (chosen n) ts) rest h k r; before_is = eb; are_left = same w }
      one (node (leaf l) ts) us ls es rest h k r w = record { text = plain (node (leaf l) ts) rest h k r; before_is = eb; are_left = same w }

  -- no region is shallow enough where none is left
  no_region_below : (rs : List (Ptr Region)) (es : Entities (List ℕ)) → PrintsRegions says s rs es → AreShallow 0 es → es ≡ no_entity
  no_region_below rs no_entity h k = refl
  no_region_below [] (an_entity t es) h k = absurd h
  no_region_below (r ∷ rs) (an_entity (entity a_region ts) es) h k = absurd k.0.1
  no_region_below (r ∷ rs) (an_entity (entity (operation kind results used successors pieces) ts) es) h k = absurd h.0
  no_region_below (r ∷ rs) (an_entity (entity (block named label arguments) ts) es) h k = absurd h.0

  no_region_there : (es : Entities (List ℕ)) → PrintsRegions says s [] es → es ≡ no_entity
  no_region_there no_entity h = refl
  no_region_there (an_entity t es) h = absurd h

  -- a region that isn't there, or would be too deep
  no_region_left : (es : Entities (List ℕ)) → (left ≡ 0) ⊎ (length its_regions ≤ progress.regions) → PrintsRegions says s (drop progress.regions its_regions) es → AreShallow left es → es ≡ no_entity
  no_region_left es (inl z) h k = no_region_below (drop progress.regions its_regions) es h (subst (λ d. AreShallow d es) z k)
  no_region_left es (inr le) h k = no_region_there es (subst (λ rs. PrintsRegions says s rs es) (drop_of_length-le its_regions le) h)

  pub no_region_printed : (a b : List ℕ) → p ≡ part.Region → (left ≡ 0) ⊎ (length its_regions ≤ progress.regions) → before_of after.before ≡ a_part → after.operands ≡ progress.operands → after.successors ≡ progress.successors → after.regions ≡ progress.regions
      → b ≡ a ++ gap_of_part (before_of progress.before) → PartPrinted says s values its_successors its_regions left f indent at p progress after a b
  no_region_printed a b e none eb eo eg er gap = record { printed = one }
    where
      one : (t : ValueTree) (us ls : List (List ℕ)) (es : Entities (List ℕ)) (rest : List Chunk) → ShowsPart says s.types p t → IsFlat left t → IsReadable 64 t
          → AreLeft says s values its_successors its_regions left progress.operands progress.successors progress.regions us ls es → IsPartPrinted says s values its_successors its_regions left f indent at t us ls es (before_of progress.before) after rest a b
      one (node region ts) us ls es rest h k r w =
          let z = no_region_left es none w.regions w.shallow in
          record {
            text = wrote a b (gap_of_part (before_of progress.before)) (spell rest) gap ∙ ap (λ x. a ++ (gap_of_part (before_of progress.before) ++ spell (first_region_on (regions_on f indent x) at rest))) (sym z);
            before_is = eb;
            are_left = rw (eo, eg, er) (subst (λ x. AreLeft says s values its_successors its_regions left progress.operands progress.successors progress.regions us ls x) (z ∙ ap other_entities (sym z)) w);
          }
      one (node (value_of_kind sorts.«Type» n) ts) us ls es rest h k r w = absurd (omega (arith, part_sorts says s.types p (value_of_kind sorts.«Type» n) ts h, ap (sort_in says s.types) e ∙ ap part_sort (outs-Region {X1 = D} {X2 = K} {X3 = A} {X4 = T})))
      one (node (value_of_kind sorts.Attribute n) ts) us ls es rest h k r w = absurd (omega (arith, part_sorts says s.types p (value_of_kind sorts.Attribute n) ts h, ap (sort_in says s.types) e ∙ ap part_sort (outs-Region {X1 = D} {X2 = K} {X3 = A} {X4 = T})))
      one (node q ts) us ls es rest h k r w = absurd (omega (arith, part_sorts says s.types p q ts h, ap (sort_in says s.types) e ∙ ap part_sort (outs-Region {X1 = D} {X2 = K} {X3 = A} {X4 = T})))

  -- the first region
  region_by : (r : Ptr Region) (rs : List (Ptr Region)) (us : List (List ℕ)) (es : Entities (List ℕ)) (rest : List Chunk) (a b c : List ℕ) → 0 < left → PrintsRegions says s (r ∷ rs) es → AreShallow left es
      → AddsRegion says s f indent (left - 1) r b c
      → AddsText b c rest (first_region_on (regions_on f indent es) at rest) × PrintsRegions says s rs (other_entities es) × AreShallow left (other_entities es)
  region_by r rs us no_entity rest a b c lt h k print = absurd h
  region_by r rs us (an_entity (entity (operation kind results used successors pieces) ts) es) rest a b c lt h k print = absurd h.0
  region_by r rs us (an_entity (entity (block named label arguments) ts) es) rest a b c lt h k print = absurd h.0
  region_by r rs us (an_entity (entity a_region ts) es) rest a b c lt h k print = (print a_region ts rest h.0 (below left lt ts k.0.1), h.1, k.1)
    where
      below : (d : ℕ) → 0 < d → (ts : Entities (List ℕ)) → Deeper d (λ e. AreShallow e ts) → AreShallow (d - 1) ts
      below zero lt ts x = absurd x
      below (suc d) lt ts x = let e : d ≡ suc d - 1 = omega arith in subst (λ n. AreShallow n ts) e x

  pub region_printed : (r : Ptr Region) (a b c : List ℕ) → p ≡ part.Region → 0 < left → slice_get its_regions progress.regions ≡ Some r → before_of after.before ≡ a_part → after.operands ≡ progress.operands → after.successors ≡ progress.successors
      → after.regions ≡ progress.regions + 1
      → b ≡ a ++ gap_of_part (before_of progress.before)
      → AddsRegion says s f indent (left - 1) r b c
      → PartPrinted says s values its_successors its_regions left f indent at p progress after a c
  region_printed r a b c e lt there eb eo eg er gap print = record { printed = one }
    where
      one : (t : ValueTree) (us ls : List (List ℕ)) (es : Entities (List ℕ)) (rest : List Chunk) → ShowsPart says s.types p t → IsFlat left t → IsReadable 64 t
          → AreLeft says s values its_successors its_regions left progress.operands progress.successors progress.regions us ls es → IsPartPrinted says s values its_successors its_regions left f indent at t us ls es (before_of progress.before) after rest a c
      one (node region ts) us ls es rest h k q w =
          let rs = drop (suc progress.regions) its_regions in
          let x = region_by r rs us es rest a b c lt (subst (λ xs. PrintsRegions says s xs es) (drop_at its_regions progress.regions r there) w.regions) w.shallow print in
          record {
            text = x.0 ∙ wrote a b (gap_of_part (before_of progress.before)) (spell (first_region_on (regions_on f indent es) at rest)) gap;
            before_is = eb;
            are_left = record {
              operands = subst (λ i. Pairs IsValueName (drop i values) us) (sym eo) w.operands;
              successors = subst (λ i. Pairs (printed_names s).block (drop i its_successors) ls) (sym eg) w.successors;
              regions = subst (λ i. PrintsRegions says s (drop i its_regions) (other_entities es)) (sym (er ∙ add-one progress.regions)) x.1;
              shallow = x.2;
            };
          }
      one (node (value_of_kind sorts.«Type» n) ts) us ls es rest h k r w = absurd (omega (arith, part_sorts says s.types p (value_of_kind sorts.«Type» n) ts h, ap (sort_in says s.types) e ∙ ap part_sort (outs-Region {X1 = D} {X2 = K} {X3 = A} {X4 = T})))
      one (node (value_of_kind sorts.Attribute n) ts) us ls es rest h k r w = absurd (omega (arith, part_sorts says s.types p (value_of_kind sorts.Attribute n) ts h, ap (sort_in says s.types) e ∙ ap part_sort (outs-Region {X1 = D} {X2 = K} {X3 = A} {X4 = T})))
      one (node q ts) us ls es rest h k r w = absurd (omega (arith, part_sorts says s.types p q ts h, ap (sort_in says s.types) e ∙ ap part_sort (outs-Region {X1 = D} {X2 = K} {X3 = A} {X4 = T})))

  -- an edge, if there is one
  pub edge_printed : (n from : ℕ) (a b c : List ℕ) → p ≡ part.Successor n → from ≤ progress.operands → from ≤ after.operands → (from < progress.operands → from ≡ after.operands)
      → after.operands ≤ progress.operands + n → (after.operands < length values → after.operands ≡ progress.operands + n)
      → after.successors ≤ progress.successors + 1 → (after.successors < length its_successors → after.successors ≡ progress.successors + 1)
      → before_of after.before ≡ a_part → after.regions ≡ progress.regions → b ≡ a ++ gap_of_part (before_of progress.before)
      → AddsEdge says s (drop progress.successors its_successors) (drop from (take after.operands values)) b c
      → PartPrinted says s values its_successors its_regions left f indent at p progress after a c
  edge_printed n from a b c e fk ft early tn full sn last eb er gap print = record { printed = one }
    where
      one : (t : ValueTree) (us ls : List (List ℕ)) (es : Entities (List ℕ)) (rest : List Chunk) → ShowsPart says s.types p t → IsFlat left t → IsReadable 64 t
          → AreLeft says s values its_successors its_regions left progress.operands progress.successors progress.regions us ls es
          → IsPartPrinted says s values its_successors its_regions left f indent at t us ls es (before_of progress.before) after rest a c
      one (node (successor m) ts) us ls es rest h k r w =
          let o : Part-F.Successor n ≡ Part-F.Successor m = sym (outs-Successor {X1 = D} {X2 = K} {X3 = A} {X4 = T} n) ∙ ap (out-Part D K A T) (sym e ∙ h) ∙ outs-Successor m in
          let en : n ≡ m = cc in
          let many : after.operands ≤ progress.operands + m = omega (arith, tn, en) in
          let exact : after.operands < length values → after.operands ≡ progress.operands + m = λ lt. full lt ∙ ap (λ i. progress.operands + i) en in
          let taken : drop from (take after.operands values) ≡ take m (drop progress.operands values) = taken_from values progress.operands m from after.operands fk ft early many exact in
          let shown : Pairs IsValueName (drop from (take after.operands values)) (take m us) =
          subst (λ xs. Pairs IsValueName xs (take m us)) (sym taken) (pairs_take IsValueName m (drop progress.operands values) us w.operands) in
          record {
            text = print at ls (take m us) rest w.successors shown ∙ wrote a b (gap_of_part (before_of progress.before)) (spell (edge_on ls (take m us) at rest)) gap;
            before_is = eb;
            are_left = record {
              operands = subst (λ xs. Pairs IsValueName xs (drop m us)) (sym (left_is values progress.operands m after.operands many exact)) (pairs_drop IsValueName m (drop progress.operands values) us w.operands);
              successors = subst (λ xs. Pairs (printed_names s).block xs (drop 1 ls)) (sym (left_is its_successors progress.successors 1 after.successors sn last))
                  (pairs_drop (printed_names s).block 1 (drop progress.successors its_successors) ls w.successors);
              regions = subst (λ i. PrintsRegions says s (drop i its_regions) es) (sym er) w.regions;
              shallow = w.shallow;
            };
          }
      one (node (value_of_kind sorts.«Type» kind) ts) us ls es rest h k r w = absurd (omega (arith, part_sorts says s.types p (value_of_kind sorts.«Type» kind) ts h, ap (sort_in says s.types) e ∙ ap part_sort (outs-Successor {X1 = D} {X2 = K} {X3 = A} {X4 = T} n)))
      one (node (value_of_kind sorts.Attribute kind) ts) us ls es rest h k r w = absurd (omega (arith, part_sorts says s.types p (value_of_kind sorts.Attribute kind) ts h, ap (sort_in says s.types) e ∙ ap part_sort (outs-Successor {X1 = D} {X2 = K} {X3 = A} {X4 = T} n)))
      one (node q ts) us ls es rest h k r w = absurd (omega (arith, part_sorts says s.types p q ts h, ap (sort_in says s.types) e ∙ ap part_sort (outs-Successor {X1 = D} {X2 = K} {X3 = A} {X4 = T} n)))

-- ---- edges

module _ {K A T : Type 0} (says : Saying K A T) (s : Seen K A T) where
  -- no edge, where no successor is left
  pub no_edge : (bs : List (Ptr BasicBlock)) (k : ℕ) (vs : List Value) (a : List ℕ) → length bs ≤ k → AddsEdge says s (drop k bs) vs a a
  no_edge bs k vs a le at ls xs rest h g =
      let none : drop k bs ≡ [] = drop_of_length-le bs le in
      ap (λ ys. a ++ spell (edge_on ys xs at rest)) (sym (unlabelled ls (subst (λ cs. Pairs (printed_names s).block cs ls) none h)))
    where
      unlabelled : (ls : List (List ℕ)) → Pairs (printed_names s).block [] ls → ls ≡ []
      unlabelled [] h = refl
      unlabelled (l ∷ ls) h = absurd h

  -- an edge by its sign, the label of its block, and names in parentheses
  pub edge_lines : (bs : List (Ptr BasicBlock)) (k : ℕ) (b : Ptr BasicBlock) (vs : List Value) (a c d e g z : List ℕ) → slice_get bs k ≡ Some b → c ≡ a ++ codes "^"
      → ((v : SeenBlock) → s.block b ≡ Some v → d ≡ c ++ block_name (label_front v.label) b.key.slot b.key.version)
      → e ≡ d ++ codes "(" → AddsOperandNames vs e g → z ≡ g ++ codes ")" → AddsEdge says s (drop k bs) vs a z
  edge_lines bs k b vs a c d e g z there o1 o2 o3 names o4 at ls xs rest h shown =
      lined ls (subst (λ cs. Pairs (printed_names s).block cs ls) (drop_at bs k b there) h)
    where
      lined : (ls : List (List ℕ)) → Pairs (printed_names s).block (b ∷ drop (suc k) bs) ls → AddsText a z rest (edge_on ls xs at rest)
      lined [] h = absurd h
      lined (l ∷ ls) h =
          let v = h.0.0 in
          let own = block_name (label_front v.label) b.key.slot b.key.version in
          let tail = token (codes ")") ∷ rest in
          let more = names_on xs tail in
          wrote g z (codes ")") (spell rest) o4 ∙ names xs tail shown ∙ wrote d e (codes "(") (spell more) o3 ∙ wrote c d own (40 ∷ spell more) (o2 v h.0.1)
          ∙ wrote a c (codes "^") (own ++ 40 ∷ spell more) o1 ∙ ap (λ y. a ++ (94 ∷ (y ++ 40 ∷ spell more))) (sym h.0.2)
