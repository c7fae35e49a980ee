-- Two readings of one text agree.
use Rattle.std.proofs.Common.{◌≡◌, ◌≢◌, ℕ, ◌+◌, ◌-◌, ◌<◌, ◌≤◌, List, [], ◌∷◌, ◌++◌, Bool, true, false, cond, Option, Some, None, length, take, drop, slice_get, refl, sym, subst, ap, ◌∙◌, arith, append_assoc, append-nil, length-append, ◌⊎◌, inl, inr}
use Rattle.std.specs.Prelude.{option_map, slice_index_or}
use Rattle.std.proofs.lemmas.Option.{slice_get-map}
use Rattle.std.proofs.lemmas.Bool.{cases_lt}
use Rattle.std.proofs.Math.Seq.{take-add}
use Rattle.ir_grammar.specs.declared.grammar.Action.{Action}
use Rattle.ir_grammar.specs.declared.grammar.Symbol.{Symbol}
use Rattle.ir_grammar.specs.declared.grammar.Event.{Event}
use Rattle.ir_grammar.specs.declared.grammar.Event.TheVariants.{Took, Did}
use Rattle.ir_grammar.specs.declared.grammar.Rule.{Rule}
use Rattle.ir_grammar.specs.declared.grammar.Class.{Class}
use Rattle.ir_grammar.specs.declared.grammar.Grammar.{Grammar}
use Rattle.ir_grammar.specs.declared.grammar.Stop.{Stop}
use Rattle.ir_grammar.specs.declared.grammar.Stop.TheVariants as stops
use Rattle.ir_formats.specs.Rules.{plain_rule, plain_rules, plain_classes}
use Rattle.ir_grammar.specs.Grammar.{accepted, accepts, Derives, Finished, Shifted, Acted, Expanded, IsTextOf, IsViable}
use Rattle.ir_grammar.specs.Reading.{IsLongestFront, IsPrefix, begins_member, OnlyBegins, IsMostly, IsMost, Reads, AreMostlyAlike}

-- ---- grammars of the same rules and signs have the same texts

abbrev accepted_by : Option (List Bool) → ℕ → Bool
accepted_by None k = false
accepted_by (Some kinds) k = slice_index_or kinds k false

accepted_plain : (o : Option Class) (k : ℕ) → accepted o k ≡ accepted_by (option_map (λ c. c.kinds.items) o) k
accepted_plain None k = refl
accepted_plain (Some c) k = refl

accepts_plain : (g : Grammar) (s k : ℕ) → accepts g s k ≡ accepted_by (slice_get (plain_classes g.signs.items) s) k
accepts_plain g s k = accepted_plain (slice_get g.signs.items s) k ∙ ap (λ o. accepted_by o k) (sym (slice_get-map (λ c. c.kinds.items) g.signs.items s))

plain_some : (o : Option Rule) (r : Rule) → option_map plain_rule o ≡ Some (plain_rule r) → (q : Rule) × (o ≡ Some q) × (plain_rule q ≡ plain_rule r)
plain_some None r e = cc
plain_some (Some q) r e = (q, refl, cc)

module _ (g h : Grammar) (rules : plain_rules g.rules.items ≡ plain_rules h.rules.items) (signs : plain_classes g.signs.items ≡ plain_classes h.signs.items) where
  rule_there : (p : ℕ) (r : Rule) → slice_get g.rules.items p ≡ Some r → (q : Rule) × (slice_get h.rules.items p ≡ Some q) × (plain_rule q ≡ plain_rule r)
  rule_there p r e = plain_some (slice_get h.rules.items p) r
      (sym (slice_get-map plain_rule h.rules.items p) ∙ ap (λ rs. slice_get rs p) (sym rules) ∙ slice_get-map plain_rule g.rules.items p ∙ ap (option_map plain_rule) e)

  pub derives_there : {ss : List Symbol} {ts : List ℕ} {es : List Event} → Derives g ss ts es → Derives h ss ts es
  derives_there Finished = Finished
  derives_there (Shifted {s = s} {k = k} a d) = Shifted (accepts_plain h s k ∙ ap (λ cs. accepted_by (slice_get cs s) k) (sym signs) ∙ sym (accepts_plain g s k) ∙ a) (derives_there d)
  derives_there (Acted d) = Acted (derives_there d)
  derives_there (Expanded {ss = ss} {ts = ts} {es = es} p r e q d) =
      let there = rule_there p r e in
      Expanded p there.0 there.1 (ap (λ x. x.0) there.2 ∙ q) (subst (λ b. Derives h (b ++ ss) ts es) (sym (ap (λ x. x.1) there.2)) (derives_there d))

  pub viable_there : (root : ℕ) (ts : List ℕ) → IsViable g root ts → IsViable h root ts
  viable_there root ts v = (v.0, (v.1.0, derives_there v.1.1))

module _ (g h : Grammar) (rules : plain_rules g.rules.items ≡ plain_rules h.rules.items) (signs : plain_classes g.signs.items ≡ plain_classes h.signs.items) where
  there : {ss : List Symbol} {ts : List ℕ} {es : List Event} → Derives g ss ts es → Derives h ss ts es
  there = derives_there g h rules signs

  back : {ss : List Symbol} {ts : List ℕ} {es : List Event} → Derives h ss ts es → Derives g ss ts es
  back = derives_there h g (sym rules) (sym signs)

  longest_there : (root : ℕ) (ts : List ℕ) (n : ℕ) → IsLongestFront g root ts n → IsLongestFront h root ts n
  longest_there root ts n l = record {
    within = l.within;
    viable = viable_there g h rules signs root (take n ts) l.viable;
    longest = λ lt v. l.longest lt (viable_there h g (sym rules) (sym signs) root (take (n + 1) ts) v);
  }

  most_there : (root : ℕ) (front : List ℕ) (es : List Event) → IsMost g root front es → IsMost h root front es
  most_there root front es m = record {
    some = (m.some.0, m.some.1, there m.some.2, m.some.3);
    most = λ more all text. m.most more all (back text);
  }

  -- so reading is the same
  pub reads_there : (root many : ℕ) (ts : List ℕ) (stop : Stop) (n : ℕ) (es : List Event) → Reads g root many ts stop n es → Reads h root many ts stop n es
  reads_there root many ts stops.Text n es (l, m, d) = (longest_there root ts n l, most_there root (take n ts) es m, there d)
  reads_there root many ts stops.Stuck n es (l, m, d) = (longest_there root ts n l, most_there root (take n ts) es m, λ t. d (t.0, back t.1))
  reads_there root many ts stops.Deep n es c = record {
    within = c.within;
    viable = viable_there g h rules signs root (take n ts) c.viable;
    each = λ more all text. c.each more all (back text);
    took = c.took;
    last = c.last;
  }

-- ---- the longest front is one

pub viable_front : (g : Grammar) (root : ℕ) (ts : List ℕ) (k d : ℕ) → IsViable g root (take (k + d) ts) → IsViable g root (take k ts)
viable_front g root ts k d v =
    (take d (drop k ts) ++ v.0, (v.1.0, subst (λ us. IsTextOf g root us v.1.0) (ap (λ us. us ++ v.0) (take-add k d ts) ∙ append_assoc (take k ts) (take d (drop k ts)) v.0) v.1.1))

not_longer : (g : Grammar) (root : ℕ) (ts : List ℕ) (n m : ℕ) → IsLongestFront g root ts n → IsLongestFront g root ts m → n < m → ⊥
not_longer g root ts n m a b lt =
    let d = m - (n + 1) in
    let e : m ≡ (n + 1) + d = omega arith in
    let within = b.within in
    a.longest (omega arith) (viable_front g root ts (n + 1) d (subst (λ x. IsViable g root (take x ts)) e b.viable))

one_front : (g : Grammar) (root : ℕ) (ts : List ℕ) (n m : ℕ) → IsLongestFront g root ts n → IsLongestFront g root ts m → n ≡ m
one_front g root ts n m a b = go (cases_lt n m) (cases_lt m n)
  where
    go : (n < m) ⊎ (m ≤ n) → (m < n) ⊎ (n ≤ m) → n ≡ m
    go (inl lt) y = absurd (not_longer g root ts n m a b lt)
    go (inr le) (inl lt) = absurd (not_longer g root ts m n b a lt)
    go (inr le) (inr ge) = omega arith

-- ---- what is done at a front is one, but for members that begin

abbrev join : Event → List Event → List Event
join Took rest = Took ∷ rest
join (Did a) [] = cond (begins_member a) [] (Did a ∷ [])
join (Did a) (y ∷ ys) = Did a ∷ y ∷ ys

-- the events without the members that begin at their end
abbrev front_of : List Event → List Event
front_of [] = []
front_of (e ∷ es) = join e (front_of es)

front_begins : (b : List Event) → OnlyBegins b → front_of b ≡ []
front_begins [] h = refl
front_begins (Took ∷ b) h = absurd h
front_begins (Did a ∷ b) h = ap (join (Did a)) (front_begins b h.1) ∙ ap (λ c. cond c [] (Did a ∷ [])) h.0

front_more : (es b : List Event) → OnlyBegins b → front_of (es ++ b) ≡ front_of es
front_more [] b h = front_begins b h
front_more (e ∷ es) b h = ap (join e) (front_more es b h)

mostly_join : (a : Action) (es f b : List Event) → es ≡ f ++ b → OnlyBegins b → IsMostly (Did a ∷ es) (join (Did a) f)
mostly_join a es (y ∷ ys) b e only = (b, ap (λ l. Did a ∷ l) e, only)
mostly_join a es [] b e only = pick (begins_member a) refl
  where
    pick : (c : Bool) → begins_member a ≡ c → IsMostly (Did a ∷ es) (cond c [] (Did a ∷ []))
    pick true h = (Did a ∷ b, ap (λ l. Did a ∷ l) e, (h, only))
    pick false h = (b, ap (λ l. Did a ∷ l) e, only)

mostly_front : (es : List Event) → IsMostly es (front_of es)
mostly_front [] = ([], refl, tt)
mostly_front (Took ∷ es) = let r = mostly_front es in (r.0, ap (λ l. Took ∷ l) r.1, r.2)
mostly_front (Did a ∷ es) = let r = mostly_front es in mostly_join a es (front_of es) r.0 r.1 r.2

prefix_join : (e : Event) (f r : List Event) → IsPrefix (join e f) (join e (f ++ r))
prefix_join Took f r = (r, refl)
prefix_join (Did a) (y ∷ ys) r = (r, refl)
prefix_join (Did a) [] r = pick (begins_member a) r
  where
    pick : (c : Bool) (r : List Event) → IsPrefix (cond (begins_member a) [] (Did a ∷ [])) (join (Did a) r)
    pick c [] = ([], sym (append-nil (cond (begins_member a) [] (Did a ∷ []))))
    pick c (y ∷ ys) = begin (begins_member a)
      where
        begin : (c : Bool) → IsPrefix (cond c [] (Did a ∷ [])) (Did a ∷ y ∷ ys)
        begin true = (Did a ∷ y ∷ ys, refl)
        begin false = (y ∷ ys, refl)

front_prefix : (es m : List Event) → IsPrefix (front_of es) (front_of (es ++ m))
front_prefix [] m = (front_of m, refl)
front_prefix (e ∷ es) m = let r = front_prefix es m in subst (λ x. IsPrefix (join e (front_of es)) (join e x)) (sym r.1) (prefix_join e (front_of es) r.0)

nothing_more : (m : List Event) → length m ≡ 0 → m ≡ []
nothing_more [] e = refl
nothing_more (x ∷ m) e = cc

prefix_same : (xs ys : List Event) → IsPrefix xs ys → IsPrefix ys xs → xs ≡ ys
prefix_same xs ys (m, a) (k, b) =
    let none : length m ≡ 0 = omega (arith, ap length a, ap length b, length-append xs m, length-append ys k) in
    sym (a ∙ ap (λ l. xs ++ l) (nothing_more m none) ∙ append-nil xs)

module _ (g : Grammar) (root : ℕ) (front : List ℕ) where
  half : (es fs : List Event) → IsMost g root front es → IsMost g root front fs → IsPrefix (front_of es) (front_of fs)
  half es fs a b =
      let all = a.some.1 in
      let mostly = a.some.3 in
      let upto = b.most a.some.0 all a.some.2 in
      let same : front_of es ≡ front_of upto.0 =
      sym (front_more es mostly.0 mostly.2) ∙ ap front_of (sym mostly.1) ∙ ap front_of upto.1.1 ∙ front_more upto.0 upto.1.0 upto.1.2 in
      let longer : front_of fs ≡ front_of (upto.0 ++ upto.2.0) = ap front_of upto.2.1 in
      subst (λ x. IsPrefix x (front_of fs)) (sym same) (subst (λ x. IsPrefix (front_of upto.0) x) (sym longer) (front_prefix upto.0 upto.2.0))

  alike : (es fs : List Event) → IsMost g root front es → IsMost g root front fs → AreMostlyAlike es fs
  alike es fs a b =
      (front_of es, mostly_front es, subst (IsMostly fs) (sym (prefix_same (front_of es) (front_of fs) (half es fs a b) (half fs es b a))) (mostly_front fs))

-- ---- two readings

module _ (g : Grammar) (root many : ℕ) (ts : List ℕ) where
  at_front : (n m : ℕ) (es fs : List Event) → IsLongestFront g root ts n → IsLongestFront g root ts m → IsMost g root (take n ts) es → IsMost g root (take m ts) fs → (n ≡ m) × AreMostlyAlike es fs
  at_front n m es fs l k a b = let e = one_front g root ts n m l k in (e, alike g root (take n ts) es fs a (subst (λ x. IsMost g root (take x ts) fs) (sym e) b))

  pub one_stop : (stop halt : Stop) (n m : ℕ) (es fs : List Event) → Reads g root many ts stop n es → Reads g root many ts halt m fs → stop ≢ stops.Deep → halt ≢ stops.Deep
      → (stop ≡ halt) × (n ≡ m) × AreMostlyAlike es fs
  one_stop stops.Deep halt n m es fs r s a b = absurd (a refl)
  one_stop stop stops.Deep n m es fs r s a b = absurd (b refl)
  one_stop stops.Text stops.Text n m es fs r s a b = let e = at_front n m es fs r.0 s.0 r.1 s.1 in (refl, e.0, e.1)
  one_stop stops.Stuck stops.Stuck n m es fs r s a b = let e = at_front n m es fs r.0 s.0 r.1 s.1 in (refl, e.0, e.1)
  one_stop stops.Text stops.Stuck n m es fs r s a b = let e = one_front g root ts n m r.0 s.0 in absurd (s.2 (es, subst (λ x. IsTextOf g root (take x ts) es) e r.2))
  one_stop stops.Stuck stops.Text n m es fs r s a b = let e = one_front g root ts n m r.0 s.0 in absurd (r.2 (fs, subst (λ x. IsTextOf g root (take x ts) fs) (sym e) s.2))
