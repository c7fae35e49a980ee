-- What is made follows what was read.
use Rattle.std.proofs.Common.{◌≡◌, ◌∙◌, inl, inr, ℕ, zero, suc, ◌+◌, ◌-◌, ◌≤◌, ◌^◌, List, [], ◌∷◌, ◌++◌, drop, length, reverse, Option, Some, None, Result, Err, slice_get, refl, sym, ap, subst, append-nil, append_assoc, arith}
use Rattle.std.proofs.lemmas.List.{length-append, reverse-reverse}
use native.Mathlib.Numerals.{unary_clauses}
use Rattle.ir_context.specs.Views.{ContextView}
use Rattle.ir_context.specs.declared.notes.BlockNotes.{BlockNotes}
use Rattle.ir_context.specs.declared.notes.OperationData.{OperationData}
use Rattle.ir_program.specs.Edits.{KeepsErased}
use Rattle.ir_types.specs.Views.{TypesView}
use Rattle.ir_names.specs.Tree.{no_tree}
use Rattle.ir_print.specs.Pieces.{Values}
use Rattle.ir_print.specs.Shown.{Saying, Pairs}
use Rattle.ir_program.specs.declared.handles.Ptr.{Ptr}
use Rattle.ir_program.specs.declared.handles.BasicBlock.{BasicBlock}
use Rattle.ir_program.specs.declared.handles.Value.{Value}
use Rattle.ir_tokens.specs.declared.faults.Fault.{Fault}
use Rattle.ir_grammar.specs.Nesting.{Position, at_root, at_end, Move, goes_to, goes_in, goes_out, nowhere, move, Nests, NestsBy}
use Rattle.ir_grammar.specs.declared.grammar.Action.{Action}
use Rattle.ir_grammar.specs.declared.grammar.Event.{Event}
use Rattle.ir_grammar.specs.declared.grammar.Event.TheVariants.{Took, Did}
use Rattle.ir_forest.specs.Building as building
use Rattle.ir_forest.specs.Building.{Built, nothing_built, built, built_from, after, fault_after, first_refusal, first_refusal_from, names_behind, or_else}
use Rattle.ir_forest.specs.Identifiers.{AreSpelt}
use Rattle.ir_forest.specs.Progress.{Leads}
use Rattle.ir_formats.specs.Ordered.{Standing, alone, moved_by}
use Rattle.ir_scopes.specs.Naming.{defined_by, defined_from, mentioned_by, mentioned_from, labelled_by, labelled_from, label_mentioned_by, label_mentioned_from}
use Rattle.text_dialect.specs.Seen.{Seen, seen}
use Rattle.text_frames.specs.building.Inside.{NamesWhatIsThere}
use Rattle.text_frames.specs.building.Kept.{KeepsPayloads}
use Rattle.text_frames.specs.declared.opened.Body.{Body}
use Rattle.text_frames.specs.declared.opened.Body.TheVariants as body
use Rattle.text_frames.specs.declared.opened.Open.{Open}
use Rattle.text_frames.specs.Frames.{Contains, sort_of}
use Rattle.text_frames.specs.Raised.{AreWaiting, RaisesAll, IsAssembled, block_nodes, names_after, names_in}
use Rattle.text_frames.specs.Worlds.{NameTokens, IsMade}
use Rattle.text_assembling.specs.declared.assembling.Assembler.{Assembler}
use Rattle.text_assembling.specs.Assembling.{HasMade, HasReadNothing, Stage, all_open, blocks_of, numbers_of, root_nodes, stage, unmade_labels, world_of}
use Rattle.text_assembling.specs.Steps.{CanStep, HasStepped, IsAt, ActionIsInPlace, Progress}
use Rattle.text_frames.proofs.Ended.{is_text}
use Rattle.text_frames.proofs.Framing.{innermost}
use Rattle.text_assembling.proofs.Held.{held_list, held_none}

pub errors_same : {A E : Type 0} {x y : E} → ◌≡◌ {A = Result A E} (Err x) (Err y) → x ≡ y
errors_same e = cc

-- where a move has its place it leads on
pub next_of : (m : Move) (around : List Position) (Rest : Position → List Position → Type 0) → NestsBy m around Rest → (s : Standing) × (moved_by m around ≡ Some s) × Rest s.here s.around
next_of (goes_to next) around Rest h = (record { here = next; around = around }, refl, h)
next_of (goes_in inner next) around Rest h = (record { here = inner; around = next ∷ around }, refl, h)
next_of goes_out [] Rest h = absurd h
next_of goes_out (next ∷ around) Rest h = (record { here = next; around = around }, refl, h)
next_of nowhere around Rest h = absurd h

some_same : {A : Type 0} {x y : A} → Some x ≡ Some y → x ≡ y
some_same e = cc

event_after : (es : List Event) (i : ℕ) (e : Event) → slice_get es i ≡ Some e → drop i es ≡ e ∷ drop (suc i) es
event_after [] i e h = cc
event_after (x ∷ es) zero e h = ap (λ (y : Event). y ∷ es) (some_same h)
event_after (x ∷ es) (suc i) e h = event_after es i e h

event_there : (es : List Event) (i : ℕ) (e : Event) → slice_get es i ≡ Some e → drop i es ≡ e ∷ drop (i + 1) es
event_there es i e h = simp unary_clauses (event_after es i e h)

leads_so : (act : Action) (rest : List Event) (s next : Standing) → moved_by (move s.here act) s.around ≡ Some next → Leads s.here s.around (Did act ∷ rest) at_end [] → Leads next.here next.around rest at_end []
leads_so act rest s next e h =
    let p = next_of (move s.here act) s.around (λ here around. Leads here around rest at_end []) h in
    subst (λ (t : Standing). Leads t.here t.around rest at_end []) (some_same (sym p.1 ∙ e)) p.2

standing_so : (s : Standing) → Leads s.here s.around [] at_end [] → s ≡ alone at_end
standing_so s h = rw h.0 (rw h.1 refl)

-- What was made of the events before the rest, and where the rest goes on.
pub record Gathers {D K A T : Type 0} (says : Saying K A T) (values : Values) (text : ℕ → List ℕ) (start : Seen K A T) (first : ℕ) (s : Stage K A T) (a : Assembler D K A T) (es rest : List Event) : Type 0 where
  pub so_far : Built
  pub standing : Standing
  pub names : NameTokens
  pub at : IsAt says values text s a (record { start = start; first = first; built = so_far; standing = standing; names = names })
  pub nests : Nests standing.here standing.around rest
  pub spelt : AreSpelt text a.taken rest
  pub leads : Leads at_root [] es at_end [] → Leads standing.here standing.around rest at_end []
  pub defines : names.definitions ++ defined_from a.taken rest ≡ defined_from 0 es
  pub says_all : names.mentions ++ mentioned_from a.taken rest ≡ mentioned_from 0 es
  pub labels_all : names.labels ++ labelled_from a.taken rest ≡ labelled_from 0 es
  pub edges_all : names.edges ++ label_mentioned_from a.taken rest ≡ label_mentioned_from 0 es
  pub builds : built es ≡ built_from so_far a.taken rest
  pub refuses : first_refusal values text es ≡ first_refusal_from values text so_far a.taken rest

-- no name is read
abbrev no_names : NameTokens
no_names = record { definitions = []; mentions = []; labels = []; edges = [] }

-- names that are the same by their sorts
same_names : (m n : NameTokens) → m.definitions ≡ n.definitions → m.mentions ≡ n.mentions → m.labels ≡ n.labels → m.edges ≡ n.edges → m ≡ n
same_names m n d e l g =
    ap (λ (xs : List ℕ). record { definitions = xs; mentions = m.mentions; labels = m.labels; edges = m.edges }) d
    ∙ (ap (λ (xs : List ℕ). record { definitions = n.definitions; mentions = xs; labels = m.labels; edges = m.edges }) e
    ∙ (ap (λ (xs : List ℕ). record { definitions = n.definitions; mentions = n.mentions; labels = xs; edges = m.edges }) l
    ∙ ap (λ (xs : List ℕ). record { definitions = n.definitions; mentions = n.mentions; labels = n.labels; edges = xs }) g))

no_numbers : (R : ℕ → ℕ → Type 0) (ns ks : List ℕ) → Pairs R ns ks → ks ≡ [] → ns ≡ []
no_numbers R [] ks h e = refl
no_numbers R (n ∷ ns) ks h e = absurd (subst (λ (js : List ℕ). Pairs R (n ∷ ns) js) e h)

no_around : {X : Type 0} (xs : List X) → reverse xs ≡ [] → xs ≡ []
no_around xs e = sym (reverse-reverse xs) ∙ ap reverse e

module _ {D K A T : Type 0} (says : Saying K A T) (values : Values) (text : ℕ → List ℕ) where
  -- nothing is read yet
  made_first : (s : Stage K A T) (a : Assembler D K A T) → HasReadNothing a → NamesWhatIsThere s.ctx → HasMade says values text s.ctx s.counter s a nothing_built (alone at_root) no_names
  made_first s a new named =
      let numbers : numbers_of a ≡ [] = rw (new.around, new.here.numbers) refl in
      let blocks : blocks_of a ≡ [] = rw (new.around, new.here.body) refl in
      let unmade : unmade_labels (all_open a) ≡ [] = rw (new.around, new.here.body) refl in
      record {
        frames = rw new.around (
          record { made = rw new.here.body tt; numbered = rw new.here.numbers tt },
          refl,
          refl,
          refl,
        );
        held = held_list s.ctx s.ctx [] a.made.loose.items new.loose (held_none s.ctx named);
        stack = rw (new.loose, blocks, new.root) refl;
        unrooted = new.root;
        definitions = record {
          many = rw new.values refl;
          rise = rw (numbers, new.values) (omega arith);
          waiting = λ i n h. (let bad : slice_get [] i ≡ Some n = subst (λ (ns : List ℕ). slice_get ns i ≡ Some n) numbers h in cc);
          settled = λ n lt. absurd (omega (arith, lt, ap length new.values));
          distinct = λ i j v w h k one. (let bad : slice_get [] i ≡ Some (Some v) = subst (λ (vs : List (Option Value)). slice_get vs i ≡ Some (Some v)) new.values h in cc);
          live = λ n v h. (let bad : slice_get [] n ≡ Some (Some v) = subst (λ (vs : List (Option Value)). slice_get vs n ≡ Some (Some v)) new.values h in cc);
          counted = rw (numbers, new.values) refl;
        };
        blocks = record {
          made = [];
          all = sym unmade;
          many = rw new.blocks refl;
          there = λ n b h. (let bad : slice_get [] n ≡ Some b = subst (λ (bs : List (Ptr BasicBlock)). slice_get bs n ≡ Some b) new.blocks h in cc);
        };
        operands = rw new.pending (record {
          once = λ j k p h. cc;
          there = λ i x h. cc;
          came = λ i x h. cc;
          empty = λ i x h. cc;
          no_successors = λ i x h. cc;
          among = λ i x h. cc;
          labels_among = λ i x h. cc;
        });
      }

  pub gathers_first : (s : Stage K A T) (a : Assembler D K A T) (es : List Event) → HasReadNothing a → NamesWhatIsThere s.ctx → Nests at_root [] es → AreSpelt text 0 es
      → Gathers says values text s.ctx s.counter s a es es
  gathers_first s a es new named nests spelt = record {
    so_far = nothing_built;
    standing = alone at_root;
    names = no_names;
    at = record {
      holds = rw new.around (record { sort = ap sort_of new.here.body; contains = subst (λ (b : Body D K A T). Contains says values text s.ctx.types b a.here.content.value no_tree) (sym new.here.body) tt; named = new.here.names }, refl);
      made = made_first s a new named;
    };
    nests = nests;
    spelt = rw new.taken spelt;
    leads = λ h. h;
    defines = rw new.taken refl;
    says_all = rw new.taken refl;
    labels_all = rw new.taken refl;
    edges_all = rw new.taken refl;
    builds = rw new.taken refl;
    refuses = rw new.taken refl;
  }

module _ {D K A T : Type 0} (says : Saying K A T) (values : Values) (text : ℕ → List ℕ) (start : Seen K A T) (first : ℕ) (s : Stage K A T) (a : Assembler D K A T) (es rest : List Event) where
  pub gathers_took : Gathers says values text start first s a es (Took ∷ rest) → Gathers says values text start first s (record a { taken = a.taken + 1 }) es rest
  gathers_took h = record {
    so_far = h.so_far;
    standing = h.standing;
    names = h.names;
    at = record {
      holds = h.at.holds;
      made = record {
        frames = h.at.made.frames;
        held = h.at.made.held;
        stack = h.at.made.stack;
        unrooted = h.at.made.unrooted;
        definitions = record {
          many = h.at.made.definitions.many;
          rise = h.at.made.definitions.rise;
          waiting = h.at.made.definitions.waiting;
          settled = h.at.made.definitions.settled;
          distinct = h.at.made.definitions.distinct;
          live = h.at.made.definitions.live;
          counted = h.at.made.definitions.counted;
        };
        blocks = record {
          made = h.at.made.blocks.made;
          all = h.at.made.blocks.all;
          many = h.at.made.blocks.many;
          there = h.at.made.blocks.there;
        };
        operands = h.at.made.operands;
      };
    };
    nests = h.nests;
    spelt = h.spelt;
    leads = h.leads;
    defines = h.defines;
    says_all = h.says_all;
    labels_all = h.labels_all;
    edges_all = h.edges_all;
    builds = h.builds;
    refuses = h.refuses;
  }

  -- an action that comes
  module _ (x : Action) (h : Gathers says values text start first s a es (Did x ∷ rest)) where
    abbrev pub so_far : Progress K A T
    so_far = record { start = start; first = first; built = h.so_far; standing = h.standing; names = h.names }

    next : (n : Standing) × (moved_by (move h.standing.here x) h.standing.around ≡ Some n) × Nests n.here n.around rest
    next = next_of (move h.standing.here x) h.standing.around (λ here around. Nests here around rest) h.nests

    goes : ActionIsInPlace text a x so_far next.0
    goes = record { leads = next.1; spelt = h.spelt.0 }

    pub gathers_can : CanStep says values text s a x
    gathers_can = record { progress = so_far; next = next.0; at = h.at; goes = goes }

    pub gathers_did : (t : Stage K A T) (c : Assembler D K A T) → c.taken ≡ a.taken → HasStepped says values text s a t c x → Gathers says values text start first t c es rest
    gathers_did t c taken stepped =
        let w = stepped so_far next.0 h.at goes in
        record {
          so_far = after h.so_far x (a.taken - 1);
          standing = next.0;
          names = names_after h.names x (a.taken - 1);
          at = w.1;
          nests = next.2;
          spelt = rw taken h.spelt.1;
          leads = λ all. leads_so x rest h.standing next.0 next.1 (h.leads all);
          defines = rw taken (append_assoc h.names.definitions (defined_by x (a.taken - 1)) (defined_from a.taken rest) ∙ h.defines);
          says_all = rw taken (append_assoc h.names.mentions (mentioned_by x (a.taken - 1)) (mentioned_from a.taken rest) ∙ h.says_all);
          labels_all = rw taken (append_assoc h.names.labels (labelled_by x (a.taken - 1)) (labelled_from a.taken rest) ∙ h.labels_all);
          edges_all = rw taken (append_assoc h.names.edges (label_mentioned_by x (a.taken - 1)) (label_mentioned_from a.taken rest) ∙ h.edges_all);
          builds = rw taken h.builds;
          refuses = rw taken (h.refuses ∙ ap (λ o. or_else o (first_refusal_from values text (after h.so_far x (a.taken - 1)) a.taken rest)) w.0);
        }

    -- a value that is refused is the first one
    pub gathers_refused : (f : Fault) → ((g : Progress K A T) (n : Standing) → IsAt says values text s a g → ActionIsInPlace text a x g n → fault_after values text g.built x (a.taken - 1) ≡ Some f)
        → first_refusal values text es ≡ Some f
    gathers_refused f refused = h.refuses ∙ ap (λ o. or_else o (first_refusal_from values text (after h.so_far x (a.taken - 1)) a.taken rest)) (refused so_far next.0 h.at goes)

    -- where there is no number for one more value, there are too few for all that the text defines
    long : 2 ^ 64 ≤ first + length h.names.definitions → 2 ^ 64 ≤ first + length (defined_from 0 es)
    long full =
        let some : length h.names.definitions + length (defined_from a.taken (Did x ∷ rest)) ≡ length (defined_from 0 es) = sym (length-append h.names.definitions (defined_from a.taken (Did x ∷ rest))) ∙ ap length h.defines in
        omega (arith, full, some)

    pub gathers_full : ((g : Progress K A T) (n : Standing) → IsAt says values text s a g → ActionIsInPlace text a x g n → 2 ^ 64 ≤ g.first + length g.names.definitions)
        → 2 ^ 64 ≤ first + length (defined_from 0 es)
    gathers_full full = long (full so_far next.0 h.at goes)

  pub gathers_sound : Gathers says values text start first s a es [] → first_refusal values text es ≡ None
  gathers_sound h = h.refuses

module _ {D K A T : Type 0} (says : Saying K A T) (values : Values) (text : ℕ → List ℕ) (start : Seen K A T) (first : ℕ) (s : Stage K A T) (a : Assembler D K A T) (es : List Event) where
  -- at the end of a whole text the root has the tree that is built, and nothing else is open
  whole : (b : Built) (names : NameTokens) → built es ≡ b → names ≡ names_in es
      → HasMade says values text start first s a b (alone at_end) names → a.here.body ≡ body.Text
      → (gs : List (Open D K A T)) (os : List building.Open) → reverse a.around.items ≡ gs → RaisesAll says values text (world_of s a names) a.made.root a.here at_end b.here gs os []
      → IsAssembled says values text start s.ctx first s.counter a.made es
  whole b names builds all_named made is [] [] none h =
      let definitions = made.definitions in
      let unnamed : a.here.numbers.items ≡ [] = no_numbers (λ n k. slice_get names.definitions n ≡ Some k) a.here.numbers.items (names_behind [] b.here) h.0.numbered h.2 in
      let numbers : numbers_of a ≡ [] = rw (no_around a.around.items none, unnamed) refl in
      let blocks : blocks_of a ≡ [] = rw (no_around a.around.items none, is) refl in
      let unmade : unmade_labels (all_open a) ≡ [] = rw (no_around a.around.items none, is) refl in
      let labels : names.labels ≡ made.blocks.made = made.blocks.all ∙ (ap (λ (ns : List ℕ). made.blocks.made ++ ns) unmade ∙ append-nil made.blocks.made) in
      record {
        root = h.3.0;
        tree = h.3.1;
        stands = h.3.2;
        says_so = rw builds h.3.3;
        made = subst (λ (ns : NameTokens). IsMade says (world_of s a ns) h.3.0 h.3.1) all_named h.3.4;
        many = subst (λ (ns : NameTokens). length ns.definitions ≡ length a.made.values.items) all_named definitions.many;
        settled = λ n lt. elim (definitions.settled n lt) [
          | inl x ↦ (let bad : slice_get [] x.0 ≡ Some n = subst (λ (ns : List ℕ). slice_get ns x.0 ≡ Some n) numbers x.1 in cc)
          | inr x ↦ (let l = definitions.live n x.0 x.1 in (x.0, x.1, l.0, l.1))
        ];
        distinct = definitions.distinct;
        counted = (let count = definitions.counted in let none_left : length (numbers_of a) ≡ 0 = ap (λ (ns : List ℕ). length ns) numbers in omega (arith, count, none_left));
        many_blocks = subst (λ (ns : NameTokens). length ns.labels ≡ length a.made.blocks.items) all_named (ap (λ (ns : List ℕ). length ns) labels ∙ made.blocks.many);
        blocks_there = made.blocks.there;
        operands = subst (λ (ns : NameTokens). AreWaiting start s.ctx a.made.pending.items ns) all_named made.operands;
        things = made.stack ∙ (ap (λ (bs : List (Ptr BasicBlock)). block_nodes bs ++ root_nodes a.made.root) blocks ∙ ap root_nodes h.3.2);
      }
  whole b names builds all_named made is [] (o ∷ os) none h = absurd h
  whole b names builds all_named made is (g ∷ gs) [] none h = absurd h
  whole b names builds all_named made is (g ∷ gs) (o ∷ os) none h = absurd h

  at_the_end : (st : Standing) (b : Built) (names : NameTokens) → st ≡ alone at_end → built es ≡ b → names ≡ names_in es
      → IsAt says values text s a (record { start = start; first = first; built = b; standing = st; names = names })
      → IsAssembled says values text start s.ctx first s.counter a.made es
  at_the_end st b names done builds all_named h =
      let at : IsAt says values text s a (record { start = start; first = first; built = b; standing = alone at_end; names = names }) =
      subst (λ (z : Standing). IsAt says values text s a (record { start = start; first = first; built = b; standing = z; names = names })) done h in
      whole b names builds all_named at.made
      (is_text a.here.body (innermost says values text s.ctx.types a.here at_end b.here (reverse a.around.items) b.around [] at.holds).sort)
      (reverse a.around.items) b.around refl at.made.frames

  pub gathers_last : Leads at_root [] es at_end [] → Gathers says values text start first s a es [] → IsAssembled says values text start s.ctx first s.counter a.made es
  gathers_last all h =
      at_the_end h.standing h.so_far h.names (standing_so h.standing (h.leads all)) h.builds
      (same_names h.names (names_in es) (sym (append-nil h.names.definitions) ∙ h.defines) (sym (append-nil h.names.mentions) ∙ h.says_all)
      (sym (append-nil h.names.labels) ∙ h.labels_all) (sym (append-nil h.names.edges) ∙ h.edges_all)) h.at

-- ---- one event more

module _ {D K A T : Type 0} (says : Saying K A T) (values : Values) (text : ℕ → List ℕ) (start : Seen K A T) (first : ℕ) (s : Stage K A T) (a : Assembler D K A T) (es : List Event) (i : ℕ) where
  -- the rest begins with the event that stands there
  pub rest_at : (e : Event) → slice_get es i ≡ Some e → Gathers says values text start first s a es (drop i es) → Gathers says values text start first s a es (e ∷ drop (i + 1) es)
  rest_at e at h = subst (λ (rest : List Event). Gathers says values text start first s a es rest) (event_there es i e at) h

  pub gathers_next : (t : Stage K A T) (c : Assembler D K A T) (e : Event) → slice_get es i ≡ Some e
      → (slice_get es i ≡ Some Took → (c ≡ record a { taken = a.taken + 1 }) × (t ≡ s))
      → ((x : Action) → slice_get es i ≡ Some (Did x) → (c.taken ≡ a.taken) × HasStepped says values text s a t c x)
      → Gathers says values text start first s a es (drop i es) → Gathers says values text start first t c es (drop (i + 1) es)
  gathers_next t c Took at took did h =
      let w = took at in
      subst (λ (z : Assembler D K A T). Gathers says values text start first t z es (drop (i + 1) es)) (sym w.0)
      (subst (λ (u : Stage K A T). Gathers says values text start first u (record a { taken = a.taken + 1 }) es (drop (i + 1) es)) (sym w.1)
      (gathers_took says values text start first s a es (drop (i + 1) es) (rest_at Took at h)))
  gathers_next t c (Did x) at took did h =
      let w = did x at in gathers_did says values text start first s a es (drop (i + 1) es) x (rest_at (Did x) at h) t c w.0 w.1

-- a token more, or none
pub took_so : (es : List Event) (i a b : ℕ) (e : Event) → slice_get es i ≡ Some e → a ≤ i
    → (slice_get es i ≡ Some Took → b ≡ a + 1) → ((x : Action) → slice_get es i ≡ Some (Did x) → b ≡ a) → b ≤ i + 1
took_so es i a b Took at le took did = let w = took at in omega (arith, le, w)
took_so es i a b (Did x) at le took did = let w = did x at in omega (arith, le, w)

-- ---- while it runs

-- So many events were taken, of which this was made; no handle that led nowhere for good leads somewhere, and payloads
-- stay.
pub record RunsSo {D TypeKind AttrKind TypeBody Saved Location OpKind Attr TypeKey : Type 0} (says : Saying OpKind Attr TypeKey) (values : Values) (text : ℕ → List ℕ)
    (old now : ContextView (OperationData D TypeKind AttrKind TypeBody Saved Location OpKind Attr TypeKey) (BlockNotes D TypeKind AttrKind TypeBody Saved Location OpKind Attr TypeKey)
    (TypesView TypeKey TypeBody Saved))
    (a : Assembler D OpKind Attr TypeKey) (i : ℕ) (es : List Event) : Type 0 where
  pub taken : a.taken ≤ i
  pub gathers : Gathers says values text (seen old) old.program.counter (stage now) a es (drop i es)
  pub erased : KeepsErased old.program now.program
  pub payloads : KeepsPayloads old.program now.program
