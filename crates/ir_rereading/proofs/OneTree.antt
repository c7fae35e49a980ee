-- A text says one tree.
use Rattle.std.proofs.Common.{◌≡◌, ℕ, true, List, [], ◌∷◌, map, None, slice_index, refl, sym, subst, ap, ◌∙◌, arith, inl, inr}
use Rattle.std.specs.Str.{chars}
use Rattle.ir_names.specs.Tree.{Trees}
use Rattle.ir_print.specs.Pieces.{Entity, no_entity, an_entity}
use Rattle.ir_tokens.specs.declared.faults.Fault.{Fault}
use Rattle.ir_tokens.specs.declared.tokens.Token.{Token}
use Rattle.ir_tokens.specs.Faults.{IsNamed}
use Rattle.ir_tokens.proofs.TokenUnique.{one_reading_lem}
use Rattle.ir_grammar.specs.declared.grammar.Event.{Event}
use Rattle.ir_grammar.specs.declared.grammar.Event.TheVariants.{Took}
use Rattle.ir_grammar.specs.declared.grammar.Stop.{Stop}
use Rattle.ir_grammar.specs.declared.grammar.Stop.TheVariants as stops
use Rattle.ir_grammar.specs.Nesting.{at_root, at_end, Nests}
use Rattle.ir_grammar.specs.Reading.{AreMostlyAlike}
use Rattle.ir_formats.specs.Ordered.{is_ordered}
use Rattle.ir_formats.specs.Ordered as ordered
use Rattle.ir_formats.specs.Rules.{words_of, rules_of}
use Rattle.ir_formats.specs.Words.{kind_of, token_text}
use Rattle.ir_scopes.specs.declared.scopes.Resolution.{Resolution}
use Rattle.ir_scopes.specs.declared.sites.Site.{Site}
use Rattle.ir_scopes.specs.Depth.{IsTooDeep}
use Rattle.ir_scopes.specs.Scopes.{definitions, mentions, labels, label_mentions, Means, IsResolved}
use Rattle.ir_scopes.proofs.Depths.{deep_stays, deep_some}
use Rattle.ir_forest.specs.Closed.{definitions_of, blocks_of}
use Rattle.ir_forest.specs.Forest.{ActionSpan, IsForestOf}
use Rattle.ir_forest.specs.Language.{Language}
use Rattle.ir_forest.specs.Meaning.{operations_in, renamed}
use Rattle.ir_forest.specs.Progress.{Leads}
use Rattle.ir_forest.specs.ValueFaults.{HasNamesFault}
use Rattle.ir_forest.proofs.BuiltTrees.{forest_is_built}
use Rattle.ir_rereading.specs.Texts.{IsReading, HasFault, Says}
use Rattle.ir_rereading.proofs.TreeTexts.{value_spelled, label_spelled, label_mention_spelled, spelled_alike, numbered_alike}
use Rattle.ir_rereading.proofs.TreeTexts.{has_own, all_numbered, definitions_within, mentions_within}
use Rattle.ir_rereading.proofs.trees.Closings.{mentions_end}
use Rattle.ir_rereading.proofs.trees.LabelNumbers.{label_meant}
use Rattle.ir_rereading.proofs.trees.LabelTexts.{tree_blocks}
use Rattle.ir_rereading.proofs.trees.LabelTokens.{labels_taken, label_mentions_taken}
use Rattle.ir_rereading.proofs.trees.TreeEdges.{edge_tokens}
use Rattle.ir_rereading.proofs.trees.TreeRenamed.{operands_of, successors_of}
use Rattle.ir_rereading.proofs.trees.TreeScopes.{definition_tokens, mention_tokens}
use Rattle.ir_rereading.proofs.trees.TreeSites.{In, of_map}
use Rattle.ir_rereading.proofs.verdicts.Agreeing.{reads_there, one_stop}
use Rattle.ir_rereading.proofs.verdicts.TextReadings.{read_in_order, read_whole}
use Rattle.ir_rereading.proofs.SameNames.{renamed_same}
use Rattle.ir_rereading.proofs.WholeTexts.{alike_whole}

-- ---- names, under two numberings of them

module _ (l : Language) (leads : ordered.PartPositions) (ok : is_ordered leads (rules_of l.formats) ≡ true) (cs : List ℕ)
    (ts : List Token) (names numbers : List ℕ) (stop : Stop) (n : ℕ) (es : List Event)
    (reading : IsReading l cs ts names stop n es) (other : IsReading l cs ts numbers stop n es)
    (r q : Resolution) (resolved : IsResolved l.isolated names es r) (again : IsResolved l.isolated numbers es q) where
  -- the number of its definition is the same for this token
  abbrev IsSame : ℕ → Type 0
  IsSame k = slice_index r.definitions k ≡ slice_index q.definitions k

  definition_same : (s : Site) → In s (definitions l.isolated es) → IsSame s.token
  definition_same s i =
      resolved.values.defined i.0 s i.1
      (definitions_within l cs ts names stop n es reading leads ok reading.numbered s i)
      ∙ sym (again.values.defined i.0 s i.1
      (definitions_within l cs ts numbers stop n es other leads ok other.numbered s i))

  -- what a mention means it means under the other numbering too
  means_again : (m : Site) → In m (mentions l.isolated es) → (j : ℕ) → Means names (definitions l.isolated es) m j →
      Means numbers (definitions l.isolated es) m j
  means_again m i j (d, at, (scope, name)) =
      let here = value_spelled l cs ts names stop n es reading d.token (d, inl (j, at), refl) in
      let there = value_spelled l cs ts names stop n es reading m.token (m, inr i, refl) in
      let spelled = spelled_alike l cs ts names stop n es reading d.token m.token here there name in
      (d, at, (scope, numbered_alike l cs ts numbers stop n es other d.token m.token here there spelled))

  mention_same : Leads at_root [] es at_end [] → (m : Site) → In m (mentions l.isolated es) → IsSame m.token
  mention_same led m i =
      let c = mentions_end l.isolated es led i.0 m i.1 in
      let j = resolved.values.resolved i.0 c.0 m c.1 i.1 c.2 c.3 in
      resolved.values.mentioned i.0 j.0 m i.1 j.1
      (mentions_within l cs ts names stop n es reading leads ok reading.numbered m i)
      ∙ sym (again.values.mentioned i.0 j.0 m i.1 (means_again m i j.0 j.1)
      (mentions_within l cs ts numbers stop n es other leads ok other.numbered m i))

  -- the same of labels: at each is its number
  label_same : (s : Site) → In s (labels l.isolated es) → IsSame s.token
  label_same s i =
      let lt = labels_taken l.isolated es (has_own l cs ts names stop n es reading leads ok) i.0 s i.1 in
      let here = all_numbered l cs ts names stop n es reading leads ok reading.numbered in
      let there = all_numbered l cs ts numbers stop n es other leads ok other.numbered in
      resolved.labels.defined i.0 s i.1 (omega arith) ∙ sym (again.labels.defined i.0 s i.1 (omega arith))

  label_means_again : (m : Site) → In m (label_mentions l.isolated es) → (j : ℕ) → Means names (labels l.isolated es) m j →
      Means numbers (labels l.isolated es) m j
  label_means_again m i j (d, at, (scope, name)) =
      let here = label_spelled l cs ts names stop n es reading d (j, at) in
      let there = label_mention_spelled l cs ts names stop n es reading m i in
      let spelled = spelled_alike l cs ts names stop n es reading d.token m.token here there name in
      (d, at, (scope, numbered_alike l cs ts numbers stop n es other d.token m.token here there spelled))

  label_mention_same : Leads at_root [] es at_end [] → (m : Site) → In m (label_mentions l.isolated es) → IsSame m.token
  label_mention_same led m i =
      let j = label_meant l.isolated names es r resolved (has_own l cs ts names stop n es reading leads ok)
      (all_numbered l cs ts names stop n es reading leads ok reading.numbered) led i.0 m i.1 in
      let lt = label_mentions_taken l.isolated es (has_own l cs ts names stop n es reading leads ok) i.0 m i.1 in
      let there = all_numbered l cs ts numbers stop n es other leads ok other.numbered in
      j.2 ∙ sym (again.labels.mentioned i.0 j.0 m i.1 (label_means_again m i j.0 j.1) (omega arith))

-- ---- one reading

-- this reading of the text has no fault, and by it the text says the tree
record IsSaidBy (l : Language) (cs : List ℕ) (tree : Entity ℕ) (ts : List Token) (stop : Stop) (n : ℕ) (es : List Event)
    : Type 0 where
  names : List ℕ
  forest : Trees ActionSpan
  body : Entity ℕ
  resolution : Resolution
  reading : IsReading l cs ts names stop n es
  fine : IsNamed (HasFault l cs ts names stop n es) None
  grown : IsForestOf es forest
  within : operations_in l.values (token_text cs ts) [] forest ≡ an_entity body no_entity
  resolved : IsResolved l.isolated names es resolution
  same : tree ≡ renamed (slice_index resolution.definitions) (slice_index resolution.definitions) body

module _ (l : Language) (leads : ordered.PartPositions) (ok : is_ordered leads (rules_of l.formats) ≡ true) (cs : List ℕ)
    (t u : Entity ℕ) (ts : List Token) where
  -- by one reading, one tree is said
  module _ (stop : Stop) (n : ℕ) (es : List Event) (a : IsSaidBy l cs t ts stop n es) (b : IsSaidBy l cs u ts stop n es) where
    led : Leads at_root [] es at_end []
    led = read_whole l leads ok cs ts a.names n es stop a.reading a.fine

    named : (f : Fault) → HasNamesFault l.values (token_text cs ts) es f → ⊥
    named f h = a.fine f (inr (inr (inl h)))

    one_forest : a.forest ≡ b.forest
    one_forest = ap (λ x. x.here) (sym (forest_is_built es a.forest a.grown) ∙ forest_is_built es b.forest b.grown)

    one_body : a.body ≡ b.body
    one_body =
        let both : an_entity a.body no_entity ≡ an_entity b.body no_entity =
        sym a.within ∙ (ap (operations_in l.values (token_text cs ts) []) one_forest ∙ b.within) in
        cc

    abbrev Same : ℕ → Type 0
    Same k = slice_index a.resolution.definitions k ≡ slice_index b.resolution.definitions k

    defined_same : (k : ℕ) → In k (definitions_of a.body) → Same k
    defined_same k i =
        let tokens = definition_tokens l.isolated l.values (token_text cs ts) es a.forest a.body a.grown a.within led named in
        let s = of_map (λ (s : Site). s.token) k (definitions l.isolated es) (subst (In k) tokens i) in
        subst Same s.2
        (definition_same l leads ok cs ts a.names b.names stop n es a.reading b.reading a.resolution b.resolution a.resolved
        b.resolved s.0 s.1)

    operand_same : (k : ℕ) → In k (operands_of a.body) → Same k
    operand_same k i =
        let m = mention_tokens l.isolated l.values (token_text cs ts) es a.forest a.body a.grown a.within led named k i in
        subst Same m.2
        (mention_same l leads ok cs ts a.names b.names stop n es a.reading b.reading a.resolution b.resolution a.resolved
        b.resolved led m.0 m.1)

    nests : Nests at_root [] es
    nests = (read_in_order l leads ok cs ts a.names n es stop a.reading).nests

    block_same : (k : ℕ) → In k (blocks_of a.body) → Same k
    block_same k i =
        let tokens = tree_blocks l.isolated l.values (token_text cs ts) es a.forest a.body nests a.grown a.within in
        let s = of_map (λ (s : Site). s.token) k (labels l.isolated es) (subst (In k) tokens i) in
        subst Same s.2
        (label_same l leads ok cs ts a.names b.names stop n es a.reading b.reading a.resolution b.resolution a.resolved
        b.resolved s.0 s.1)

    edge_same : (k : ℕ) → In k (successors_of a.body) → Same k
    edge_same k i =
        let m = edge_tokens l.isolated l.values (token_text cs ts) es a.forest a.body nests a.grown a.within k i in
        subst Same m.2
        (label_mention_same l leads ok cs ts a.names b.names stop n es a.reading b.reading a.resolution b.resolution
        a.resolved b.resolved led m.0 m.1)

    said_same : t ≡ u
    said_same =
        let here = slice_index a.resolution.definitions in
        let there = slice_index b.resolution.definitions in
        a.same
        ∙ (renamed_same here there here there a.body defined_same operand_same block_same edge_same
        ∙ (ap (renamed there there) one_body ∙ sym b.same))

  -- ---- two readings

  not_deep : (v : Entity ℕ) (stop : Stop) (n : ℕ) (es : List Event) → IsSaidBy l cs v ts stop n es →
      stop ≡ stops.Deep → ⊥
  not_deep v stops.Text n es a e = cc
  not_deep v stops.Stuck n es a e = cc
  not_deep v stops.Deep n es a e =
      let last = a.reading.reads.2.last in
      let found = deep_some last.0 last.2 in
      let deep = subst (λ z. IsTooDeep z found.0) (sym last.1) (deep_stays last.0 (Took ∷ []) found.0 found.1) in
      a.fine found.0 (inr (inr (inr (inl deep))))

  module _ (stop halt : Stop) (n m : ℕ) (es fs : List Event) (a : IsSaidBy l cs t ts stop n es)
      (b : IsSaidBy l cs u ts halt m fs) where
    stops_alike : (stop ≡ halt) × (n ≡ m) × AreMostlyAlike es fs
    stops_alike =
        let here = a.reading.reads in
        let there = b.reading.reads in
        let ks = map (kind_of (map chars (words_of l.formats)) cs) ts in
        one_stop here.0 0 64 ks stop halt n m es fs here.2
        (reads_there there.0 here.0 (there.1.rules ∙ sym here.1.rules) (there.1.signs ∙ sym here.1.signs) 0 64 ks halt m
        fs there.2)
        (not_deep t stop n es a) (not_deep u halt m fs b)

    one_list : es ≡ fs
    one_list =
        alike_whole es fs stops_alike.2 (read_whole l leads ok cs ts a.names n es stop a.reading a.fine)
        (read_whole l leads ok cs ts b.names m fs halt b.reading b.fine)

    readings_same : t ≡ u
    readings_same =
        said_same stop n es a
        (subst (λ z. IsSaidBy l cs u ts z n es) (sym stops_alike.0)
        (subst (λ z. IsSaidBy l cs u ts halt z es) (sym stops_alike.1)
        (subst (λ z. IsSaidBy l cs u ts halt m z) (sym one_list) b)))

said_by : (l : Language) (cs : List ℕ) (t : Entity ℕ) (s : Says l cs t) → IsSaidBy l cs t s.0 s.2 s.3 s.4
said_by l cs t s = record {
  names = s.1;
  forest = s.5;
  body = s.6;
  resolution = s.7;
  reading = s.8;
  fine = s.9;
  grown = s.10;
  within = s.11;
  resolved = s.12;
  same = s.13;
}

-- Two trees that one text says are the same.
pub one_tree_said : (l : Language) (leads : ordered.PartPositions) → is_ordered leads (rules_of l.formats) ≡ true →
    (cs : List ℕ) (t u : Entity ℕ) → Says l cs t → Says l cs u → t ≡ u
one_tree_said l leads ok cs t u s v =
    let a = said_by l cs t s in
    let b = said_by l cs u v in
    let tokens : v.0 ≡ s.0 = one_reading_lem cs 0 v.0 s.0 b.reading.tokens a.reading.tokens in
    readings_same l leads ok cs t u s.0 s.2 v.2 s.3 v.3 s.4 v.4 a
    (subst (λ z. IsSaidBy l cs u z v.2 v.3 v.4) tokens b)
