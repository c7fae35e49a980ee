-- Where reading stops too deep, the first fault is met before.
use Rattle.std.proofs.Common.{◌≡◌, ◌≢◌, ℕ, zero, suc, ◌+◌, ◌-◌, ◌<◌, ◌≤◌, List, [], ◌∷◌, ◌++◌, Option, Some, None, length, take, drop, refl, sym, subst, ap, ◌∙◌, arith, append_assoc, append-nil, Bool, true, false, MatchBool, ◌⊎◌, inl, inr}
use Rattle.std.proofs.lemmas.Bool.{cases_lt}
use Rattle.std.proofs.Math.Seq.{take-add}
use Rattle.std.proofs.lemmas.List.{length-take-le}
use Rattle.ir_names.specs.Tree.{Trees, node}
use Rattle.ir_print.specs.Pieces.{Values}
use Rattle.ir_grammar.specs.declared.grammar.Action.{Action}
use Rattle.ir_grammar.specs.declared.grammar.Action.TheVariants.{BeginRegion, Begin}
use Rattle.ir_grammar.specs.declared.grammar.Event.{Event}
use Rattle.ir_grammar.specs.declared.grammar.Event.TheVariants.{Took, Did}
use Rattle.ir_grammar.specs.declared.grammar.Grammar.{Grammar}
use Rattle.ir_grammar.specs.declared.grammar.Stop.{Stop}
use Rattle.ir_grammar.specs.declared.grammar.Stop.TheVariants as stops
use Rattle.ir_tokens.specs.declared.tokens.Token.{Token}
use Rattle.ir_tokens.specs.declared.faults.Fault.{Fault}
use Rattle.ir_grammar.specs.Grammar.{IsTextOf, IsViable}
use Rattle.ir_grammar.specs.Reading.{IsLongestFront, IsMost, IsPrefix, IsCutShort, Reads, OpensMore, OpensAt, opens, depth_at, through, tooks, AreMostlyAlike}
use Rattle.ir_grammar.specs.Nesting.{has_own_token, FollowTokens}
use Rattle.ir_formats.specs.Ordered.{IsInOrder, OrdersTexts}
use Rattle.ir_tokens.specs.Faults.{FaultPrecedes, IsNamed}
use Rattle.ir_scopes.specs.Depth.{IsTooDeep}
use Rattle.ir_forest.specs.Forest.{Deed, deeds, deeds_from, deeds_of, deeds_in, ending, end_of, ActionSpan, IsWholeStep}
use Rattle.ir_forest.specs.ValueFaults.{results, HasNumberFault, HasNamesFault}
use Rattle.ir_scopes.specs.Scopes.{HasScopeFault}
use Rattle.ir_rereading.specs.Texts.{IsSyntaxFault, HasFault}
use Rattle.ir_formats.specs.Words.{token_text}
use Rattle.ir_forest.specs.Language.{Language}
use Rattle.ir_scopes.proofs.Depths.{deep_stays, deep_later, deep_some}
use Rattle.ir_scopes.proofs.ScopeFronts.{later}
use Rattle.ir_grammar.proofs.Derivations.{tooks_append}
use Rattle.ir_formats.proofs.Ordered.{front_in_order, reading_in_order}
use Rattle.ir_tokens.proofs.FirstFault.{named_along, one_named}
use Rattle.ir_rereading.proofs.verdicts.Agreeing.{viable_front, one_stop}
use Rattle.ir_rereading.proofs.verdicts.AlikeFaults.{deeds_append, faults_stay, alike_faults}

-- ---- trees that end later

module _ (low : ℕ) where
  abbrev AllLate : List Deed → Type 0
  AllLate [] = Unit {0}
  AllLate (d ∷ ds) = (low ≤ d.1 + 1) × AllLate ds

  -- there is a last deed, and it is late
  abbrev EndsLate : List Deed → Type 0
  EndsLate [] = ⊥
  EndsLate (d ∷ []) = low ≤ d.1 + 1
  EndsLate (d ∷ e ∷ ds) = EndsLate (e ∷ ds)

  deeds_late : (n : ℕ) (b : List Event) → low ≤ n → AllLate (deeds_from n b)
  deeds_late n [] le = tt
  deeds_late n (Took ∷ b) le = deeds_late (n + 1) b (omega arith)
  deeds_late n (Did x ∷ b) le = (omega arith, deeds_late n b le)

  late_front : (d : Deed) (ds after : List Deed) → AllLate (d ∷ ds ++ after) → EndsLate (d ∷ ds)
  late_front d [] after all = all.0
  late_front d (e ∷ ds) after all = late_front e ds after all.1

  late_more : (d : Deed) (ds : List Deed) → EndsLate ds → EndsLate (d ∷ ds)
  late_more d [] h = absurd h
  late_more d (e ∷ ds) h = h

  split : (xs ys ds after : List Deed) → AllLate ds → xs ++ ds ≡ ys ++ after → ((rest : List Deed) × (xs ≡ ys ++ rest)) ⊎ EndsLate ys
  split xs [] ds after all e = inl (xs, refl)
  split [] (y ∷ ys) ds after all e = inr (late_front y ys after (subst AllLate e all))
  split (x ∷ xs) (y ∷ ys) ds after all e =
      let head : x ≡ y = cc in
      let tail : xs ++ ds ≡ ys ++ after = cc in
      elim (split xs ys ds after all tail) [
        | inl r ↦ inl (r.0, ap (λ z. z ∷ xs) head ∙ ap (λ zs. y ∷ zs) r.1)
        | inr h ↦ inr (late_more y ys h)
      ]

  late_behind : (xs : List Deed) (d : Deed) (ds : List Deed) → EndsLate (xs ++ d ∷ ds) → EndsLate (d ∷ ds)
  late_behind [] d ds h = h
  late_behind (x ∷ []) d ds h = h
  late_behind (x ∷ y ∷ xs) d ds h = late_behind (y ∷ xs) d ds h

  tree_late : (s : ActionSpan) (ts : Trees ActionSpan) → IsWholeStep (end_of s.action) s ts → EndsLate (deeds_of (node s ts)) → low ≤ s.last + 1
  tree_late s ts whole h = go (end_of s.action) whole h
    where
      go : (o : Option Action) → IsWholeStep o s ts → EndsLate ((s.action, s.first) ∷ (deeds_in ts ++ ending o s.last)) → low ≤ s.last + 1
      go None w h =
          let alone : EndsLate ((s.action, s.first) ∷ []) = subst (λ us. EndsLate ((s.action, s.first) ∷ (deeds_in us ++ []))) w.2 h in
          let at : s.last ≡ s.first = w.1 in
          omega (arith, alone, at)
      go (Some x) w h = late_behind ((s.action, s.first) ∷ deeds_in ts) (x, s.last) [] h

module _ (a b : List Event) (s : ActionSpan) (ts : Trees ActionSpan) (whole : IsWholeStep (end_of s.action) s ts) where
  tree_later : (before after : List Deed) → deeds (a ++ b) ≡ before ++ (deeds_of (node s ts) ++ after)
      → ((rest : List Deed) × (deeds a ≡ before ++ (deeds_of (node s ts) ++ rest))) ⊎ (tooks a ≤ s.last + 1)
  tree_later before after e =
      elim (split (tooks a) (deeds a) (before ++ deeds_of (node s ts)) (deeds_from (0 + tooks a) b) after (deeds_late (tooks a) (0 + tooks a) b (omega arith))
      (sym (deeds_append 0 a b) ∙ e ∙ sym (append_assoc before (deeds_of (node s ts)) after))) [
        | inl r ↦ inl (r.0, r.1 ∙ append_assoc before (deeds_of (node s ts)) r.0)
        | inr h ↦ inr (tree_late (tooks a) s ts whole (late_behind (tooks a) before (s.action, s.first) (deeds_in ts ++ ending (end_of s.action) s.last) h))
      ]

module _ (values : Values) (text : ℕ → List ℕ) (a b : List Event) (f : Fault) where
  number_later : HasNumberFault values text (a ++ b) f → HasNumberFault values text a f ⊎ (tooks a ≤ f.met + 1)
  number_later (s, ts, i, (whole, before, after, e), sound, refuses, is) = elim (tree_later a b s ts whole.0 before after e) [
    | inl r ↦ inl (s, ts, i, (whole, before, r.0, r.1), sound, refuses, is)
    | inr h ↦ inr (let met : f.met ≡ s.last = ap (λ g. g.met) is in omega (arith, h, met))
  ]

  names_later : HasNamesFault values text (a ++ b) f → HasNamesFault values text a f ⊎ (tooks a ≤ f.met + 1)
  names_later (names, kind, s, ts, before, after, whole, e, other, act, differ, is) =
      elim (tree_later a b s ts whole.0 (before ++ results names) after (e ∙ sym (append_assoc before (results names) (deeds_of (node s ts) ++ after)))) [
        | inl r ↦ inl (names, kind, s, ts, before, r.0, whole, r.1 ∙ append_assoc before (results names) (deeds_of (node s ts) ++ r.0), other, act, differ, is)
        | inr h ↦ inr (let met : f.met ≡ s.last = ap (λ g. g.met) is in omega (arith, h, met))
      ]

-- ---- the depth that is met first

opens_own : (a : Action) → opens a ≡ true → has_own_token a ≡ true
opens_own BeginRegion h = refl
opens_own (Begin sort kind) h = refl
opens_own _ h = cc

follows_rest : (b : Bool) (fresh : Bool) (es : List Event) → MatchBool b ((fresh ≡ true) × FollowTokens false es) (FollowTokens false es) → FollowTokens false es
follows_rest true fresh es h = h.1
follows_rest false fresh es h = h

opens_before : (many n d : ℕ) (fresh : Bool) (es : List Event) (k : ℕ) → FollowTokens fresh es → (fresh ≡ true → 1 ≤ n) → OpensAt many n d es k → k + 1 ≤ n + tooks es
opens_before many n d fresh [] k follows one h = absurd h
opens_before many n d fresh (Took ∷ es) k follows one h = let r = opens_before many (n + 1) d true es k follows (λ e. omega arith) h in omega (arith, r)
opens_before many n d fresh (Did a ∷ es) k follows one (inl h) =
    let own = subst (λ b. MatchBool b ((fresh ≡ true) × FollowTokens false es) (FollowTokens false es)) (opens_own a h.0) follows in
    let some : 1 ≤ n = one own.0 in
    let at : k ≡ n - 1 = h.2 in
    omega (arith, some, at)
opens_before many n d fresh (Did a ∷ es) k follows one (inr h) =
    opens_before many n (depth_at d a) false es k (follows_rest (has_own_token a) fresh es follows) (λ e. let w : false ≡ true = e in cc) h

-- ---- one fault is named of readings

one_option : (Has : Fault → Type 0) (o p : Option Fault) → IsNamed Has o → IsNamed Has p → o ≡ p
one_option Has None None a b = refl
one_option Has None (Some g) a b = absurd (a g b.0)
one_option Has (Some f) None a b = absurd (b f a.0)
one_option Has (Some f) (Some g) a b = ap Some (one_named Has f g a b)

precedes_met : (f g : Fault) → FaultPrecedes f g → f.met ≤ g.met
precedes_met f g (inl a) = omega (arith, a)
precedes_met f g (inr a) = omega (arith, a.0)

syntax_met : (stop : Stop) (n all : ℕ) (f : Fault) → IsSyntaxFault stop n all f → f.met ≡ n
syntax_met stops.Text n all f h = ap (λ g. g.met) h.1
syntax_met stops.Stuck n all f h = ap (λ g. g.met) h
syntax_met stops.Deep n all f h = absurd h

comparable : (xs ys all : List Event) → IsPrefix xs all → IsPrefix ys all → IsPrefix xs ys ⊎ IsPrefix ys xs
comparable [] ys all a b = inl (ys, refl)
comparable (x ∷ xs) [] all a b = inr (x ∷ xs, refl)
comparable (x ∷ xs) (y ∷ ys) all a b =
    let both : x ∷ (xs ++ a.0) ≡ y ∷ (ys ++ b.0) = sym a.1 ∙ b.1 in
    let head : x ≡ y = cc in
    let tail : xs ++ a.0 ≡ ys ++ b.0 = cc in
    elim (comparable xs ys (xs ++ a.0) (a.0, refl) (b.0, tail)) [
      | inl r ↦ inl (r.0, ap (λ zs. y ∷ zs) r.1 ∙ ap (λ z. z ∷ (xs ++ r.0)) (sym head))
      | inr r ↦ inr (r.0, ap (λ zs. x ∷ zs) r.1 ∙ ap (λ z. z ∷ (ys ++ r.0)) head)
    ]

through_prefix : (es all : List Event) (k : ℕ) → IsPrefix es all → tooks es ≤ k → IsPrefix es (through all k)
through_prefix es all k a le = subst (λ x. IsPrefix es (through x k)) (sym a.1) (go es a.0 k le)
  where
    go : (es more : List Event) (k : ℕ) → tooks es ≤ k → IsPrefix es (through (es ++ more) k)
    go [] more k le = (through more k, refl)
    go (Took ∷ es) more zero le = absurd (omega (arith, le))
    go (Took ∷ es) more (suc k) le = let r = go es more k (omega (arith, le)) in (r.0, ap (λ l. Took ∷ l) r.1)
    go (Did x ∷ es) more k le = let r = go es more k le in (r.0, ap (λ l. Did x ∷ l) r.1)

module _ (l : Language) (cs : List ℕ) (ts : List Token) (names : List ℕ) where
  abbrev Others : List Event → Fault → Type 0
  Others es f = HasNumberFault l.values (token_text cs ts) es f ⊎ (HasNamesFault l.values (token_text cs ts) es f ⊎ (IsTooDeep es f ⊎ HasScopeFault l.isolated names es f))

  others_later : (a b : List Event) (f : Fault) → Others (a ++ b) f → Others a f ⊎ (tooks a ≤ f.met + 1)
  others_later a b f (inl h) = elim (number_later l.values (token_text cs ts) a b f h) [ inl x ↦ inl (inl x) | inr y ↦ inr y ]
  others_later a b f (inr (inl h)) = elim (names_later l.values (token_text cs ts) a b f h) [ inl x ↦ inl (inr (inl x)) | inr y ↦ inr y ]
  others_later a b f (inr (inr (inl h))) = elim (deep_later a b f h) [ inl x ↦ inl (inr (inr (inl x))) | inr y ↦ inr y ]
  others_later a b f (inr (inr (inr h))) = elim (later l.isolated names a b f h) [ inl x ↦ inl (inr (inr (inr x))) | inr y ↦ inr y ]

  others_stay : (a b : List Event) (f : Fault) → Others a f → Others (a ++ b) f
  others_stay a b f h = go (faults_stay l cs ts names stops.Deep 0 a b f (inr h))
    where
      go : HasFault l cs ts names stops.Deep 0 (a ++ b) f → Others (a ++ b) f
      go (inl x) = absurd x
      go (inr x) = x

  -- of all that begins with a reading that stops too deep the same fault is named
  deep_named : (n m : ℕ) (es more : List Event) (halt : Stop) → tooks es ≡ n → IsInOrder es → (before : List Event) × (es ≡ before ++ Took ∷ []) × OpensMore 64 0 before → n ≤ m
      → (o : Option Fault) → IsNamed (HasFault l cs ts names halt m (es ++ more)) o → IsNamed (HasFault l cs ts names stops.Deep n es) o
  deep_named n m es more halt took order (before, e, opened) le o named = go o named
    where
      found : (f : Fault) × IsTooDeep before f
      found = deep_some before opened

      there : IsTooDeep es found.0
      there = subst (λ x. IsTooDeep x found.0) (sym e) (deep_stays before (Took ∷ []) found.0 found.1)

      early : found.0.met + 2 ≤ n
      early =
          let follows = (front_in_order before (Took ∷ []) (subst IsInOrder e order)).follows in
          let k = found.1.0 in
          let b : k + 1 ≤ 0 + tooks before = opens_before 64 0 0 false before k follows (λ w. let x : false ≡ true = w in cc) found.1.1 in
          let met : found.0.met ≡ k = ap (λ g. g.met) found.1.2 in
          let t : tooks es ≡ tooks before + 1 = ap tooks e ∙ tooks_append before (Took ∷ []) in
          omega (arith, b, met, t, took)

      fault : HasFault l cs ts names halt m (es ++ more) found.0
      fault = inr (others_stay es more found.0 (inr (inr (inl there))))

      up : (g : Fault) → HasFault l cs ts names stops.Deep n es g → HasFault l cs ts names halt m (es ++ more) g
      up g (inl x) = absurd x
      up g (inr x) = inr (others_stay es more g x)

      here : (f : Fault) → f.met ≤ found.0.met → HasFault l cs ts names halt m (es ++ more) f → HasFault l cs ts names stops.Deep n es f
      here f low (inl x) = let met = syntax_met halt m (length ts) f x in let fast = early in absurd (omega (arith, low, met, fast, le))
      here f low (inr x) = elim (others_later es more f x) [ inl y ↦ inr y | inr y ↦ (let fast = early in absurd (omega (arith, y, low, fast, took))) ]

      go : (o : Option Fault) → IsNamed (HasFault l cs ts names halt m (es ++ more)) o → IsNamed (HasFault l cs ts names stops.Deep n es) o
      go None none = absurd (none found.0 fault)
      go (Some f) (has, first) = (here f (precedes_met f found.0 (first found.0 fault)) has, λ g hg. first g (up g hg))

module _ (l : Language) (cs : List ℕ) (ts : List Token) (names : List ℕ) (g : Grammar) (orders : OrdersTexts g) (ks : List ℕ) where
  abbrev Named : Stop → ℕ → List Event → Option Fault → Type 0
  Named stop n es o = IsNamed (HasFault l cs ts names stop n es) o

  each_on : (n m : ℕ) (es : List Event) → IsCutShort g 0 64 ks n es → n ≤ m → (more : List ℕ) (all : List Event) → IsTextOf g 0 (take m ks ++ more) all → IsPrefix es all
  each_on n m es c le more all text =
      let d = m - n in
      let e : m ≡ n + d = omega (arith, le) in
      let parts : take m ks ≡ take n ks ++ take d (drop n ks) = ap (λ k. take k ks) e ∙ take-add n d ks in
      c.each (take d (drop n ks) ++ more) all (subst (λ us. IsTextOf g 0 us all) (ap (λ us. us ++ more) parts ∙ append_assoc (take n ks) (take d (drop n ks)) more) text)

  -- alike readings
  alike_named : (stop : Stop) (n : ℕ) (es fs : List Event) → AreMostlyAlike es fs → (o : Option Fault) → Named stop n es o → Named stop n fs o
  alike_named stop n es fs a o h = named_along (HasFault l cs ts names stop n es) (HasFault l cs ts names stop n fs) o (alike_faults l cs ts names stop n es fs a) (alike_faults l cs ts names stop n fs es (a.0, a.2, a.1)) h

  near : (stop halt : Stop) (n m : ℕ) (es fs : List Event) → Reads g 0 64 ks stop n es → Reads g 0 64 ks halt m fs → stop ≢ stops.Deep → halt ≢ stops.Deep
      → (o p : Option Fault) → Named stop n es o → Named halt m fs p → o ≡ p
  near stop halt n m es fs r s a b o p named other =
      let one = one_stop g 0 64 ks stop halt n m es fs r s a b in
      one_option (HasFault l cs ts names halt m fs) o p
      (subst (λ z. Named z m fs o) one.0 (subst (λ z. Named stop z fs o) one.1 (alike_named stop n es fs one.2 o named))) other

  deep_near : (halt : Stop) (n m : ℕ) (es fs : List Event) → Reads g 0 64 ks stops.Deep n es → IsLongestFront g 0 ks m → IsMost g 0 (take m ks) fs
      → (o p : Option Fault) → Named stops.Deep n es o → Named halt m fs p → o ≡ p
  deep_near halt n m es fs c longest most o p named other =
      let le = within_longest (cases_lt m n) in
      let all = most.some.1 in
      let mostly = most.some.3 in
      let size : length (take m ks) ≡ m = length-take-le m ks longest.within in
      let pre = through_prefix es all (length (take m ks)) (each_on n m es c le most.some.0 all most.some.2) (let t = c.took in omega (arith, t, le, size)) in
      let same : AreMostlyAlike fs (through all (length (take m ks))) = (fs, ([], sym (append-nil fs), tt), mostly) in
      let order = reading_in_order g orders 64 n ks stops.Deep es c in
      one_option (HasFault l cs ts names stops.Deep n es) o p named
      (deep_named l cs ts names n m es pre.0 halt c.took order c.last le p (subst (λ x. Named halt m x p) pre.1 (alike_named halt m fs (through all (length (take m ks))) same p other)))
    where
      within_longest : (m < n) ⊎ (n ≤ m) → n ≤ m
      within_longest (inr le) = le
      within_longest (inl lt) =
          let d = n - (m + 1) in
          let e : n ≡ (m + 1) + d = omega (arith, lt) in
          let within = c.within in
          absurd (longest.longest (omega (arith, lt, within)) (viable_front g 0 ks (m + 1) d (subst (λ x. IsViable g 0 (take x ks)) e c.viable)))

  deep_longer : (n m : ℕ) (es fs : List Event) → IsCutShort g 0 64 ks n es → IsCutShort g 0 64 ks m fs → IsPrefix es fs → (o p : Option Fault) → Named stops.Deep n es o → Named stops.Deep m fs p → o ≡ p
  deep_longer n m es fs c k pre o p named other =
      let t = c.took in
      let u = k.took in
      let sum : tooks fs ≡ tooks es + tooks pre.0 = ap tooks pre.1 ∙ tooks_append es pre.0 in
      let order = reading_in_order g orders 64 n ks stops.Deep es c in
      one_option (HasFault l cs ts names stops.Deep n es) o p named
      (deep_named l cs ts names n m es pre.0 stops.Deep c.took order c.last (omega (arith, t, u, sum)) p (subst (λ x. Named stops.Deep m x p) pre.1 other))

  deep_deep : (n m : ℕ) (es fs : List Event) → IsCutShort g 0 64 ks n es → IsCutShort g 0 64 ks m fs → n ≤ m → (o p : Option Fault) → Named stops.Deep n es o → Named stops.Deep m fs p → o ≡ p
  deep_deep n m es fs c k le o p named other =
      let v = k.viable in
      elim (comparable es fs v.1.0 (each_on n m es c le v.0 v.1.0 v.1.1) (k.each v.0 v.1.0 v.1.1)) [
        | inl pre ↦ deep_longer n m es fs c k pre o p named other
        | inr pre ↦ sym (deep_longer m n fs es k c pre p o other named)
      ]

  -- two readings name one fault, or none
  pub verdict : (stop halt : Stop) (n m : ℕ) (es fs : List Event) → Reads g 0 64 ks stop n es → Reads g 0 64 ks halt m fs → (o p : Option Fault) → Named stop n es o → Named halt m fs p → o ≡ p
  verdict stops.Deep stops.Deep n m es fs r s o p a b = elim (cases_lt m n) [ inl lt ↦ sym (deep_deep m n fs es s r (omega (arith, lt)) p o b a) | inr le ↦ deep_deep n m es fs r s le o p a b ]
  verdict stops.Deep stops.Text n m es fs r s o p a b = deep_near stops.Text n m es fs r s.0 s.1 o p a b
  verdict stops.Deep stops.Stuck n m es fs r s o p a b = deep_near stops.Stuck n m es fs r s.0 s.1 o p a b
  verdict stops.Text stops.Deep n m es fs r s o p a b = sym (deep_near stops.Text m n fs es s r.0 r.1 p o b a)
  verdict stops.Stuck stops.Deep n m es fs r s o p a b = sym (deep_near stops.Stuck m n fs es s r.0 r.1 p o b a)
  verdict stops.Text stops.Text n m es fs r s o p a b = near stops.Text stops.Text n m es fs r s (λ e. cc) (λ e. cc) o p a b
  verdict stops.Text stops.Stuck n m es fs r s o p a b = near stops.Text stops.Stuck n m es fs r s (λ e. cc) (λ e. cc) o p a b
  verdict stops.Stuck stops.Text n m es fs r s o p a b = near stops.Stuck stops.Text n m es fs r s (λ e. cc) (λ e. cc) o p a b
  verdict stops.Stuck stops.Stuck n m es fs r s o p a b = near stops.Stuck stops.Stuck n m es fs r s (λ e. cc) (λ e. cc) o p a b
