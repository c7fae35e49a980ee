-- What one more tree adds to the pieces, the tokens and the names of others.
use Rattle.std.proofs.Common.{◌≡◌, ℕ, suc, List, [], ◌∷◌, ◌++◌, refl, sym, ap, ◌∙◌}
use Rattle.std.proofs.lemmas.List.{append_assoc, append-nil}
use Rattle.ir_names.specs.Tree.{LabelledTree, Trees, node, no_tree, a_tree, join, count}
use Rattle.ir_print.specs.Pieces.{Pieces, Values}
use Rattle.ir_grammar.specs.declared.grammar.Action.{Action}
use Rattle.ir_grammar.specs.declared.grammar.Action.TheVariants as act
use Rattle.ir_forest.specs.Forest.{ActionSpan}
use Rattle.ir_forest.specs.Meaning.{with_piece, pieces_in, tokens_in}
use Rattle.ir_forest.specs.ValueFaults.{tokens_at, part_tokens}
use Rattle.ir_forest.specs.Building.{behind, names_behind, with_name}

-- a step's piece stands before the others, whatever these are
piece_before : (values : Values) (a : Action) (cs : List ℕ) (many : ℕ) (ts rest more : Pieces)
    → with_piece values a cs many ts (join rest more) ≡ join (with_piece values a cs many ts rest) more
piece_before values act.Result cs many ts rest more = refl
piece_before values (act.Operation n) cs many ts rest more = refl
piece_before values act.EndOperation cs many ts rest more = refl
piece_before values act.BeginRegion cs many ts rest more = refl
piece_before values act.EndRegion cs many ts rest more = refl
piece_before values act.Label cs many ts rest more = refl
piece_before values act.Argument cs many ts rest more = refl
piece_before values act.Header cs many ts rest more = refl
piece_before values act.EndBlock cs many ts rest more = refl
piece_before values (act.Begin sort n) cs many ts rest more = refl
piece_before values (act.End sort) cs many ts rest more = refl
piece_before values (act.Leaf sort) cs many ts rest more = refl
piece_before values act.BeginOperands cs many ts rest more = refl
piece_before values act.Operand cs many ts rest more = refl
piece_before values act.EndOperands cs many ts rest more = refl
piece_before values act.BeginSuccessor cs many ts rest more = refl
piece_before values act.EndSuccessor cs many ts rest more = refl
piece_before values act.BeginList cs many ts rest more = refl
piece_before values act.BeginItem cs many ts rest more = refl
piece_before values act.EndItem cs many ts rest more = refl
piece_before values act.EndList cs many ts rest more = refl
piece_before values (act.BeginChoice n) cs many ts rest more = refl
piece_before values act.EndChoice cs many ts rest more = refl

-- the pieces of trees with one more behind them
pub pieces_behind : (values : Values) (text : ℕ → List ℕ) (ts : Trees ActionSpan) (s : ActionSpan) (us : Trees ActionSpan)
    → pieces_in values text (behind ts (node s us)) ≡ join (pieces_in values text ts) (with_piece values s.action (text s.first) (count us) (pieces_in values text us) no_tree)
pieces_behind values text no_tree s us = refl
pieces_behind values text (a_tree (node r rs) ts) s us =
    ap (λ (ps : Pieces). with_piece values r.action (text r.first) (count rs) (pieces_in values text rs) ps) (pieces_behind values text ts s us)
    ∙ piece_before values r.action (text r.first) (count rs) (pieces_in values text rs) (pieces_in values text ts) _

pub tokens_behind : (ts : Trees ActionSpan) (s : ActionSpan) (us : Trees ActionSpan) → tokens_in (behind ts (node s us)) ≡ tokens_in ts ++ s.first ∷ []
tokens_behind no_tree s us = refl
tokens_behind (a_tree (node r rs) ts) s us = ap (λ (ks : List ℕ). r.first ∷ ks) (tokens_behind ts s us)

pub name_behind : (names : List ℕ) (ts : Trees ActionSpan) (s : ActionSpan) (us : Trees ActionSpan) → names_behind names (behind ts (node s us)) ≡ with_name (names_behind names ts) s.action s.first
name_behind names no_tree s us = refl
name_behind names (a_tree (node r rs) ts) s us = name_behind (with_name names r.action r.first) ts s us

pub count_behind : (ts : Trees ActionSpan) (t : LabelledTree ActionSpan) → count (behind ts t) ≡ suc (count ts)
count_behind no_tree t = refl
count_behind (a_tree u ts) t = ap suc (count_behind ts t)

-- the tokens of parts with those of one more step behind them
pub parts_behind : (ts : Trees ActionSpan) (s : ActionSpan) (us : Trees ActionSpan) → part_tokens (behind ts (node s us)) ≡ part_tokens ts ++ tokens_at s.action s.first (part_tokens us)
parts_behind no_tree s us = append-nil (tokens_at s.action s.first (part_tokens us))
parts_behind (a_tree (node r rs) ts) s us =
    ap (λ ks. tokens_at r.action r.first (part_tokens rs) ++ ks) (parts_behind ts s us)
    ∙ sym (append_assoc (tokens_at r.action r.first (part_tokens rs)) (part_tokens ts) (tokens_at s.action s.first (part_tokens us)))
