-- What is open holds what is built of it: where types are kept, and with one more tree.
use Rattle.std.proofs.Common.{◌≡◌, ℕ, suc, List, [], ◌∷◌, ◌++◌, length, refl, sym, ap, subst, ◌∙◌}
use Rattle.ir_names.specs.Tree.{Trees, node, no_tree, a_tree, join, count}
use Rattle.ir_print.specs.declared.format.Part.{Part}
use Rattle.ir_print.specs.Pieces.{Pieces, Values, ValueTree}
use Rattle.ir_print.specs.Shown.{Saying, ShowsPart, ShowsParts}
use Rattle.text_frames.specs.declared.opened.Body.{Body}
use Rattle.text_frames.specs.declared.opened.Body.TheVariants as body
use Rattle.text_frames.specs.declared.opened.Content.{Content}
use Rattle.text_frames.specs.declared.opened.Open as opened
use Rattle.ir_forest.specs.Forest.{ActionSpan}
use Rattle.ir_forest.specs.Meaning.{pieces_in, with_piece, tokens_in}
use Rattle.ir_forest.specs.Building as building
use Rattle.ir_forest.specs.Building.{behind, names_behind, with_name}
use Rattle.ir_grammar.specs.Nesting.{Position}
use Rattle.text_frames.specs.Opened.{HasPut, IsFreshFrame}
use Rattle.text_frames.specs.building.Kept.{KeepsKeys}
use Rattle.text_frames.specs.Frames.{FrameSort, a_text, an_operation, some_operands, an_edge, a_region, a_block, a_type, an_attribute, a_list, an_item, a_choice, sort_at, sort_of, TakesParts, EndsAt, IsEmpty, NamesResults, SaysParts, Contains, IsFrame, HasBegun, Stands, BeganSo}
use Rattle.text_frames.proofs.BuildingLemmas.ShownLater.{parts_later, members_later, parts_put}
use Rattle.ir_forest.specs.ValueFaults.{tokens_at, part_tokens}
use Rattle.ir_forest.proofs.PiecesBehind.{pieces_behind, parts_behind}

-- ---- where types are kept

module _ {D K A T : Type 0} (says : Saying K A T) (values : Values) (text : ℕ → List ℕ) (s t : List T) (keeps : KeepsKeys s t) where
  parts_kept : (c : Content D K A T) (ts : Trees ActionSpan) → SaysParts says values text s c ts → SaysParts says values text t c ts
  parts_kept c ts h = record { parts = parts_later says s t keeps c.parts.items (pieces_in values text ts) h.parts; tokens = h.tokens }

  contains_later : (b : Body D K A T) (c : Content D K A T) (ts : Trees ActionSpan) → Contains says values text s b c ts → Contains says values text t b c ts
  contains_later body.Text c ts h = h
  contains_later (body.«Type» n) c ts h = parts_kept c ts h
  contains_later (body.Attribute n) c ts h = parts_kept c ts h
  contains_later (body.List ms) c ts h = record { members = members_later says s t keeps ms.items (pieces_in values text ts) h.members; tokens = h.tokens }
  contains_later body.Item c ts h = parts_kept c ts h
  contains_later (body.Choice n) c ts h = parts_kept c ts h
  contains_later (body.Operation o) c ts h = parts_kept c ts h
  contains_later (body.Operands ks) c ts h = h
  contains_later (body.Successor ks) c ts h = h
  contains_later (body.Region bs) c ts h = h
  contains_later (body.Block b) c ts h = h

  pub frame_later : (f : opened.Open D K A T) (at : Position) (ts : Trees ActionSpan) → IsFrame says values text s f at ts → IsFrame says values text t f at ts
  frame_later f at ts h = record { sort = h.sort; contains = contains_later f.body f.content.value ts h.contains; named = h.named }

  begun_later : (f : opened.Open D K A T) (o : building.Open) (next : Position) → HasBegun says values text s f o next → HasBegun says values text t f o next
  begun_later f o next h = record { begins = h.begins; first = h.first; ends = h.ends }

  -- what is open stands as it stood
  pub stands_later : (f : opened.Open D K A T) (at : Position) (ts : Trees ActionSpan) (gs : List (opened.Open D K A T)) (os : List building.Open) (qs : List Position)
      → Stands says values text s f at ts gs os qs → Stands says values text t f at ts gs os qs
  stands_later f at ts [] [] [] h = (frame_later f at ts h.0, h.1)
  stands_later f at ts [] [] (q ∷ qs) h = absurd h
  stands_later f at ts [] (o ∷ os) qs h = absurd h
  stands_later f at ts (g ∷ gs) [] qs h = absurd h
  stands_later f at ts (g ∷ gs) (o ∷ os) [] h = absurd h
  stands_later f at ts (g ∷ gs) (o ∷ os) (q ∷ qs) h =
      (frame_later f at ts h.0, begun_later f o q h.1, stands_later g q o.before gs os qs h.2)

-- ---- names of results

unnamed : (s : FrameSort) (names : List ℕ) (ts : Trees ActionSpan) → TakesParts s → NamesResults s names ts
unnamed an_operation names ts takes = tt
unnamed a_type names ts takes = tt
unnamed an_attribute names ts takes = tt
unnamed an_item names ts takes = tt
unnamed a_choice names ts takes = tt
unnamed a_text names ts takes = absurd takes
unnamed some_operands names ts takes = absurd takes
unnamed an_edge names ts takes = absurd takes
unnamed a_region names ts takes = absurd takes
unnamed a_block names ts takes = absurd takes
unnamed a_list names ts takes = absurd takes

no_names : (s : FrameSort) (names : List ℕ) → names ≡ [] → NamesResults s names no_tree
no_names an_operation names e = tt
no_names a_type names e = tt
no_names an_attribute names e = tt
no_names an_item names e = tt
no_names a_choice names e = tt
no_names a_text names e = e
no_names some_operands names e = tt
no_names an_edge names e = tt
no_names a_region names e = tt
no_names a_block names e = e
no_names a_list names e = tt

-- ---- one more tree

module _ {D K A T : Type 0} (says : Saying K A T) (values : Values) (text : ℕ → List ℕ) (types : List T) where
  parts_of : (b : Body D K A T) (c : Content D K A T) (ts : Trees ActionSpan) → TakesParts (sort_of b) → Contains says values text types b c ts → SaysParts says values text types c ts
  parts_of body.Text c ts takes h = absurd takes
  parts_of (body.«Type» n) c ts takes h = h
  parts_of (body.Attribute n) c ts takes h = h
  parts_of (body.List ms) c ts takes h = absurd takes
  parts_of body.Item c ts takes h = h
  parts_of (body.Choice n) c ts takes h = h
  parts_of (body.Operation o) c ts takes h = h
  parts_of (body.Operands ks) c ts takes h = absurd takes
  parts_of (body.Successor ks) c ts takes h = absurd takes
  parts_of (body.Region bs) c ts takes h = absurd takes
  parts_of (body.Block b) c ts takes h = absurd takes

  of_parts : (b : Body D K A T) (c : Content D K A T) (ts : Trees ActionSpan) → TakesParts (sort_of b) → SaysParts says values text types c ts → Contains says values text types b c ts
  of_parts body.Text c ts takes h = absurd takes
  of_parts (body.«Type» n) c ts takes h = h
  of_parts (body.Attribute n) c ts takes h = h
  of_parts (body.List ms) c ts takes h = absurd takes
  of_parts body.Item c ts takes h = h
  of_parts (body.Choice n) c ts takes h = h
  of_parts (body.Operation o) c ts takes h = h
  of_parts (body.Operands ks) c ts takes h = absurd takes
  of_parts (body.Successor ks) c ts takes h = absurd takes
  of_parts (body.Region bs) c ts takes h = absurd takes
  of_parts (body.Block b) c ts takes h = absurd takes

  -- where one more part is said, with the tokens of what is in it, that is one more tree
  pub frame_put : (f g : opened.Open D K A T) (b : Body D K A T) (at : Position) (ts : Trees ActionSpan) (s : ActionSpan) (us : Trees ActionSpan) (x : Part D K A T) (p : ValueTree) (ks : List ℕ)
      → TakesParts (sort_at at) → IsFrame says values text types f at ts → sort_of b ≡ sort_of f.body → HasPut f g b x ks → ks ≡ tokens_at s.action s.first (part_tokens us)
      → with_piece values s.action (text s.first) (count us) (pieces_in values text us) no_tree ≡ a_tree p no_tree
      → ShowsPart says types x p → IsFrame says values text types g at (behind ts (node s us))
  frame_put f g b at ts s us x p ks takes h kind put token piece shown =
      let more : Trees ActionSpan = behind ts (node s us) in
      let q : pieces_in values text more ≡ join (pieces_in values text ts) (a_tree p no_tree) =
      pieces_behind values text ts s us ∙ ap (λ (r : Pieces). join (pieces_in values text ts) r) piece in
      let old : SaysParts says values text types f.content.value ts = parts_of f.body f.content.value ts (subst TakesParts (sym h.sort) takes) h.contains in
      let shown_all : ShowsParts says types (f.content.value.parts.items ++ x ∷ []) (join (pieces_in values text ts) (a_tree p no_tree)) =
      parts_put says types f.content.value.parts.items (pieces_in values text ts) x p old.parts shown in
      let sorts : sort_of g.body ≡ sort_at at = ap sort_of put.body ∙ (kind ∙ h.sort) in
      record {
        sort = sorts;
        contains = of_parts g.body g.content.value more (subst TakesParts (sym sorts) takes) (record {
          parts = subst (λ (ps : Pieces). ShowsParts says types g.content.value.parts.items ps) (sym q)
              (subst (λ (xs : List (Part D K A T)). ShowsParts says types xs (join (pieces_in values text ts) (a_tree p no_tree))) (sym put.content.parts) shown_all);
          tokens = put.content.tokens ∙ (ap (λ (ns : List ℕ). ns ++ ks) old.tokens ∙ (ap (λ (ns : List ℕ). part_tokens ts ++ ns) token ∙ sym (parts_behind ts s us)));
        });
        named = unnamed (sort_at at) g.names.items more takes;
      }

  -- what stands elsewhere, in the same
  pub frame_at : (f : opened.Open D K A T) (at to : Position) (ts : Trees ActionSpan) → sort_at to ≡ sort_at at → IsFrame says values text types f at ts → IsFrame says values text types f to ts
  frame_at f at to ts e h = record {
    sort = h.sort ∙ sym e;
    contains = h.contains;
    named = subst (λ (s : FrameSort). NamesResults s f.names.items ts) (sym e) h.named;
  }

  pub stands_at : (f : opened.Open D K A T) (at to : Position) (ts : Trees ActionSpan) (gs : List (opened.Open D K A T)) (os : List building.Open) (qs : List Position)
      → sort_at to ≡ sort_at at → Stands says values text types f at ts gs os qs → Stands says values text types f to ts gs os qs
  stands_at f at to ts [] [] [] e h = (frame_at f at to ts e h.0, e ∙ h.1)
  stands_at f at to ts [] [] (q ∷ qs) e h = absurd h
  stands_at f at to ts [] (o ∷ os) qs e h = absurd h
  stands_at f at to ts (g ∷ gs) [] qs e h = absurd h
  stands_at f at to ts (g ∷ gs) (o ∷ os) [] e h = absurd h
  stands_at f at to ts (g ∷ gs) (o ∷ os) (q ∷ qs) e h = (frame_at f at to ts e h.0, h.1, h.2)

  -- what is innermost holds other trees
  pub stands_with : (f g : opened.Open D K A T) (at to : Position) (ts us : Trees ActionSpan) (gs : List (opened.Open D K A T)) (os : List building.Open) (qs : List Position)
      → sort_at to ≡ sort_at at → BeganSo f g → IsFrame says values text types g to us
      → Stands says values text types f at ts gs os qs → Stands says values text types g to us gs os qs
  stands_with f g at to ts us [] [] [] e so new h = (new, e ∙ h.1)
  stands_with f g at to ts us [] [] (q ∷ qs) e so new h = absurd h
  stands_with f g at to ts us [] (o ∷ os) qs e so new h = absurd h
  stands_with f g at to ts us (k ∷ gs) [] qs e so new h = absurd h
  stands_with f g at to ts us (k ∷ gs) (o ∷ os) [] e so new h = absurd h
  stands_with f g at to ts us (k ∷ gs) (o ∷ os) (q ∷ qs) e so new h =
      (new, record { begins = so.begins o.action h.1.begins; first = so.first ∙ h.1.first; ends = subst (λ (s : FrameSort). EndsAt s q) (sym so.sort) h.1.ends }, h.2)

  pub innermost : (f : opened.Open D K A T) (at : Position) (ts : Trees ActionSpan) (gs : List (opened.Open D K A T)) (os : List building.Open) (qs : List Position)
      → Stands says values text types f at ts gs os qs → IsFrame says values text types f at ts
  innermost f at ts [] [] [] h = h.0
  innermost f at ts [] [] (q ∷ qs) h = absurd h
  innermost f at ts [] (o ∷ os) qs h = absurd h
  innermost f at ts (g ∷ gs) [] qs h = absurd h
  innermost f at ts (g ∷ gs) (o ∷ os) [] h = absurd h
  innermost f at ts (g ∷ gs) (o ∷ os) (q ∷ qs) h = h.0

-- ---- what has begun

module _ {D K A T : Type 0} (says : Saying K A T) (values : Values) (text : ℕ → List ℕ) (types : List T) where
  fresh_parts : (f : opened.Open D K A T) (b : Body D K A T) (k : ℕ) → IsFreshFrame f b k → SaysParts says values text types f.content.value no_tree
  fresh_parts f b k h = record { parts = rw h.parts tt; tokens = h.tokens }

  fresh_contains : (f : opened.Open D K A T) (b : Body D K A T) (k : ℕ) → IsFreshFrame f b k → IsEmpty b → Contains says values text types b f.content.value no_tree
  fresh_contains f body.Text k h e = tt
  fresh_contains f (body.«Type» n) k h e = fresh_parts f (body.«Type» n) k h
  fresh_contains f (body.Attribute n) k h e = fresh_parts f (body.Attribute n) k h
  fresh_contains f (body.List ms) k h e = record { members = rw e tt; tokens = h.tokens }
  fresh_contains f body.Item k h e = fresh_parts f body.Item k h
  fresh_contains f (body.Choice n) k h e = fresh_parts f (body.Choice n) k h
  fresh_contains f (body.Operation o) k h e = fresh_parts f (body.Operation o) k h
  fresh_contains f (body.Operands ks) k h e = e
  fresh_contains f (body.Successor ks) k h e = e
  fresh_contains f (body.Region bs) k h e = tt
  fresh_contains f (body.Block b) k h e = tt

  pub fresh_frame : (f : opened.Open D K A T) (b : Body D K A T) (k : ℕ) (at : Position) → IsFreshFrame f b k → IsEmpty b → sort_of b ≡ sort_at at → IsFrame says values text types f at no_tree
  fresh_frame f b k at h e sorts = record {
    sort = ap sort_of h.body ∙ sorts;
    contains = subst (λ (x : Body D K A T). Contains says values text types x f.content.value no_tree) (sym h.body) (fresh_contains f b k h e);
    named = no_names (sort_at at) f.names.items h.names;
  }

pub count_tokens : (ts : Trees ActionSpan) → length (tokens_in ts) ≡ count ts
count_tokens no_tree = refl
count_tokens (a_tree (node s us) ts) = ap suc (count_tokens ts)
