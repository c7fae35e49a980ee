-- The scopes of values and of labels in a text that is read, and in its tree.
use Rattle.std.proofs.Common.{◌≡◌, ℕ, ◌<◌, ◌≤◌, true, false, List, [], length, Option, Some, None, slice_get, slice_index, refl, sym, subst, ap, ◌∙◌, arith, inl, inr}
use Rattle.std.specs.Option.{option_map_or}
use Rattle.ir_names.specs.Tree.{Trees}
use Rattle.ir_print.specs.Pieces.{Entity, no_entity, an_entity}
use Rattle.ir_grammar.specs.declared.grammar.Event.{Event}
use Rattle.ir_grammar.specs.declared.grammar.Stop.{Stop}
use Rattle.ir_grammar.specs.declared.grammar.Stop.TheVariants as stops
use Rattle.ir_tokens.specs.declared.tokens.Token.{Token}
use Rattle.ir_tokens.specs.declared.faults.Fault.{Fault}
use Rattle.ir_scopes.specs.declared.scopes.Resolution.{Resolution}
use Rattle.ir_scopes.specs.declared.sites.Site.{Site}
use Rattle.ir_forest.specs.Closed.{AllDistinct, definitions_of, IsScopedRoot, HasEdges, IsNumbered}
use Rattle.ir_tokens.specs.Faults.{IsNamed}
use Rattle.ir_forest.specs.Forest.{ActionSpan, IsForestOf}
use Rattle.ir_forest.specs.Meaning.{operations_in, renamed}
use Rattle.ir_grammar.specs.Reading.{tooks}
use Rattle.ir_grammar.specs.Nesting.{at_root, at_end, OwnTokens}
use Rattle.ir_formats.specs.Ordered as ordered
use Rattle.ir_formats.specs.Ordered.{is_ordered}
use Rattle.ir_forest.specs.Progress.{Leads}
use Rattle.ir_formats.specs.Rules.{rules_of}
use Rattle.ir_scopes.specs.Scopes.{beginning, definitions, labels, mentions, label_mentions, closings, defined, labelled, mentioned, label_mentioned, name_of, Means, IsAgain, IsUnresolvedName, NamesAreApart, value_names, label_names, IsResolved}
use Rattle.ir_rereading.specs.Texts.{IsReading, HasFault}
use Rattle.ir_formats.specs.Words.{token_text, text_of}
use Rattle.ir_forest.specs.Language.{Language}
use Rattle.ir_forest.specs.ValueFaults.{HasNamesFault}
use Rattle.ir_scopes.proofs.Apart.{are_apart}
use Rattle.ir_rereading.proofs.trees.DefinedTokens.{definitions_taken, mentions_taken}
use Rattle.ir_formats.proofs.Ordered.{orders_texts, text_ends, own_tokens}
use Rattle.ir_rereading.proofs.verdicts.Renumbering.{SpelledAt, reading_spelled, sites_at, defined_own, labelled_own, mentioned_own, label_mentioned_own}
use Rattle.ir_rereading.proofs.verdicts.TextReadings.{leads_along, read_in_order, read_whole}
use Rattle.ir_rereading.proofs.trees.TreeEdges.{numbers_edges, blocks_counted}
use Rattle.ir_rereading.proofs.trees.TreeScopes.{NamesValue, numbers_scoped, numbers_counted, mention_means, none_again, none_lacking}
use Rattle.ir_rereading.proofs.trees.TreeSites.{In}
use Rattle.ir_rereading.proofs.verdicts.TokensTaken.{reading_taken}

module _ (l : Language) (cs : List ℕ) (ts : List Token) (names : List ℕ) (stop : Stop) (n : ℕ) (es : List Event) (reading : IsReading l cs ts names stop n es) where
  -- the tokens that name values may be names
  pub value_spelled : (k : ℕ) → NamesValue l.isolated es k → SpelledAt ts k
  value_spelled k (s, (inl d), e) = subst (SpelledAt ts) e (sites_at l.isolated (SpelledAt ts) defined (λ at. refl) defined_own beginning es (reading_spelled l cs ts names stop n es reading) d.0 s d.1)
  value_spelled k (s, (inr m), e) = subst (SpelledAt ts) e (sites_at l.isolated (SpelledAt ts) mentioned (λ at. refl) mentioned_own beginning es (reading_spelled l cs ts names stop n es reading) m.0 s m.1)

  -- and so do those that are labels
  pub label_spelled : (s : Site) → In s (labels l.isolated es) → SpelledAt ts s.token
  label_spelled s i = sites_at l.isolated (SpelledAt ts) labelled (λ at. refl) labelled_own beginning es (reading_spelled l cs ts names stop n es reading) i.0 s i.1

  pub label_mention_spelled : (m : Site) → In m (label_mentions l.isolated es) → SpelledAt ts m.token
  label_mention_spelled m i = sites_at l.isolated (SpelledAt ts) label_mentioned (λ at. refl) label_mentioned_own beginning es (reading_spelled l cs ts names stop n es reading) i.0 m i.1

  -- Two tokens that may be names have one number exactly where they have one text.
  pub spelled_alike : (j k : ℕ) → SpelledAt ts j → SpelledAt ts k → name_of names j ≡ name_of names k → token_text cs ts j ≡ token_text cs ts k
  spelled_alike j k (s, at, a) (t, there, b) e =
      ap (λ (x : Option Token). option_map_or (text_of cs) x []) at ∙ ((reading.alike j k s t at there a b).0 e ∙ ap (λ (x : Option Token). option_map_or (text_of cs) x []) (sym there))

  pub numbered_alike : (j k : ℕ) → SpelledAt ts j → SpelledAt ts k → token_text cs ts j ≡ token_text cs ts k → name_of names j ≡ name_of names k
  numbered_alike j k (s, at, a) (t, there, b) e =
      (reading.alike j k s t at there a b).1 (sym (ap (λ (x : Option Token). option_map_or (text_of cs) x []) at) ∙ (e ∙ ap (λ (x : Option Token). option_map_or (text_of cs) x []) there))

  module _ (leads : ordered.PartPositions) (ok : is_ordered leads (rules_of l.formats) ≡ true) where
    -- names of values and blocks have tokens of their own
    pub names_apart : NamesAreApart (value_names l.isolated es) (label_names l.isolated es)
    names_apart = are_apart l.isolated es (own_tokens es (read_in_order l leads ok cs ts names n es stop reading).follows)

    -- each name of a value or a block has a token of its own
    pub has_own : OwnTokens false es
    has_own = own_tokens es (read_in_order l leads ok cs ts names n es stop reading).follows

    module _ (enough : length ts ≤ length names) where
      -- all tokens that were taken have numbers
      pub all_numbered : tooks es ≤ length names
      all_numbered = let few = reading_taken l cs ts names stop n es reading in omega arith

      -- each token that names a value has a number
      pub definitions_within : (s : Site) → In s (definitions l.isolated es) → s.token < length names
      definitions_within s i =
          let lt = definitions_taken l.isolated es (own_tokens es (read_in_order l leads ok cs ts names n es stop reading).follows) i.0 s i.1 in
          let few = reading_taken l cs ts names stop n es reading in omega arith

      pub mentions_within : (s : Site) → In s (mentions l.isolated es) → s.token < length names
      mentions_within s i =
          let lt = mentions_taken l.isolated es (own_tokens es (read_in_order l leads ok cs ts names n es stop reading).follows) i.0 s i.1 in
          let few = reading_taken l cs ts names stop n es reading in omega arith

      -- The tree of a text without fault, in which the number of its definition names a value, and a block, is scoped, each edge leads to a
      -- block of the nearest region, and definitions and blocks have the numbers from 0 on.
      pub text_scoped : IsNamed (HasFault l cs ts names stop n es) None → (forest : Trees ActionSpan) (tree : Entity ℕ) (r : Resolution) → IsForestOf es forest
          → operations_in l.values (token_text cs ts) [] forest ≡ an_entity tree no_entity → IsResolved l.isolated names es r
          → IsScopedRoot l.isolated (renamed (slice_index r.definitions) (slice_index r.definitions) tree) × HasEdges [] (renamed (slice_index r.definitions) (slice_index r.definitions) tree)
          × IsNumbered (renamed (slice_index r.definitions) (slice_index r.definitions) tree)
      text_scoped none forest tree r read says resolved =
          let led = read_whole l leads ok cs ts names n es stop reading none in
          let nests = (read_in_order l leads ok cs ts names n es stop reading).nests in
          let named : (f : Fault) → HasNamesFault l.values (token_text cs ts) es f → ⊥ = λ f h. none f (inr (inr (inl h))) in (
            numbers_scoped l.isolated l.values (token_text cs ts) es forest tree read says led named names r resolved definitions_within mentions_within,
            numbers_edges l.isolated l.values (token_text cs ts) es forest tree nests read says names r resolved has_own all_numbered led,
            record {
              values = numbers_counted l.isolated l.values (token_text cs ts) es forest tree read says led named names r resolved definitions_within mentions_within;
              blocks = blocks_counted l.isolated l.values (token_text cs ts) es forest tree nests read says names r resolved has_own all_numbered;
            },
          )

  -- ---- from the tree of a text to its names

  module _ (forest : Trees ActionSpan) (tree : Entity ℕ) (read : IsForestOf es forest) (says : operations_in l.values (token_text cs ts) [] forest ≡ an_entity tree no_entity)
      (led : Leads at_root [] es at_end []) (named : (f : Fault) → HasNamesFault l.values (token_text cs ts) es f → ⊥)
      (distinct : AllDistinct (definitions_of (renamed (token_text cs ts) (token_text cs ts) tree))) (scoped : IsScopedRoot l.isolated (renamed (token_text cs ts) (token_text cs ts) tree)) where
    spelled : (j k : ℕ) → NamesValue l.isolated es j → NamesValue l.isolated es k → name_of names j ≡ name_of names k → token_text cs ts j ≡ token_text cs ts k
    spelled j k x y = spelled_alike j k (value_spelled j x) (value_spelled k y)

    numbered : (j k : ℕ) → NamesValue l.isolated es j → NamesValue l.isolated es k → token_text cs ts j ≡ token_text cs ts k → name_of names j ≡ name_of names k
    numbered j k x y = numbered_alike j k (value_spelled j x) (value_spelled k y)

    -- no name is defined twice
    pub text_none_again : (f : Fault) → IsAgain names (definitions l.isolated es) f → ⊥
    text_none_again = none_again l.isolated l.values (token_text cs ts) es forest tree read says led named names distinct scoped spelled numbered

    -- none lacks its definition
    pub text_none_lacking : (f : Fault) → IsUnresolvedName names (definitions l.isolated es) (mentions l.isolated es) (closings l.isolated es) f → ⊥
    text_none_lacking = none_lacking l.isolated l.values (token_text cs ts) es forest tree read says led named names distinct scoped spelled numbered

    -- each mention means a definition
    pub text_means : (i : ℕ) (m : Site) → slice_get (mentions l.isolated es) i ≡ Some m → (j : ℕ) × Means names (definitions l.isolated es) m j
    text_means = mention_means l.isolated l.values (token_text cs ts) es forest tree read says led named names distinct scoped spelled numbered

-- Where reading ends with the text, all that was begun is ended.
pub text_leads : (l : Language) (leads : ordered.PartPositions) → is_ordered leads (rules_of l.formats) ≡ true → (cs : List ℕ) (ts : List Token) (names : List ℕ) (n : ℕ) (es : List Event)
    → IsReading l cs ts names stops.Text n es → Leads at_root [] es at_end []
text_leads l leads ok cs ts names n es r =
    let s = r.reads in
    leads_along es at_root [] at_end [] (text_ends s.0 (orders_texts s.0 leads (ap (is_ordered leads) s.1.rules ∙ ok)) 64 n _ es s.2)
