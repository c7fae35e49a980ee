-- Texts that no pass changes.
use Rattle.std.proofs.Common.{◌≡◌, inl, inr, ℕ, List, [], ◌∷◌, chars, refl, sym, subst, ◌∙◌}
use Rattle.ir_forest.specs.Closed.{IsClosedTree, IsNumbered, IsSameModule}
use Rattle.ir_print.specs.Pieces.{Entity}
use Rattle.kit.specs.Context.{KitTree}
use Rattle.kit_language.specs.Language.{kit_language}
use Rattle.kit_text_programs.specs.SameLaws.{OneTextSaysTheSame, SayTheSame, TheSameSayOneText, TypesAreNumbered}
use Rattle.text_dialect.specs.Seen.{seen}
use Rattle.irkit_running.specs.Outcomes.{RunGives}
use Rattle.irkit_driver.proofs.CutLemmas.{EachClosed, SaidAreClosed, holding, left, one_closed}
use Rattle.irkit_driver.specs.Same.{HaveOneModule}

module _ (closed : SaidAreClosed) (numbers : TypesAreNumbered) (alike : OneTextSaysTheSame) (one : TheSameSayOneText)
    (bytes text : List ℕ) (g : RunGives [] bytes text) where
  -- the tree that the bytes say is closed, and its definitions are numbered in their order
  read_closed : IsClosedTree kit_language g.accepted.0.text × IsNumbered g.accepted.0.text
  read_closed = closed g.accepted.0.holds.numbering (seen g.before) g.root (chars bytes) g.accepted.0.text
      g.accepted.0.says_it.1 g.accepted.0.holds.stands

  -- the tree that is read and the one that is written
  abbrev texts : List (Entity ℕ)
  texts = g.accepted.0.text ∷ g.gives.written.tree ∷ []

  both_closed : EachClosed texts
  both_closed = (read_closed.0, (g.gives.written.closed, tt))

  -- the context has one tree, so what is written is the module that was read
  written_same : IsSameModule g.accepted.0.text g.gives.written.tree
  written_same =
      let n = numbers texts (one_closed texts both_closed) in
      let first = holding g.accepted.0.text g.before g.root g.accepted.0.holds in
      let last = holding g.gives.written.tree g.gives.after g.root g.gives.written.holds in
      let c = n.handles g.before g.gives.after g.accepted.0.text g.gives.written.tree g.root g.root g.accepted.0.holds.tree
      g.gives.written.holds.tree g.gives.passed.types (inl refl) (inr (inl refl)) first last in
      let itself : SayTheSame c.0.to c.0.to g.accepted.0.holds.tree g.accepted.0.holds.tree =
      alike n.number c.0.to c.0.to g.accepted.0.text g.accepted.0.text g.before g.before g.root g.root
      g.accepted.0.holds.tree g.accepted.0.holds.tree refl first first c.1 c.1 in
      let same : SayTheSame c.0.to c.0.to g.accepted.0.holds.tree g.gives.written.holds.tree =
      subst (λ (t : KitTree). SayTheSame c.0.to c.0.to g.accepted.0.holds.tree t)
      (left [] g.before g.root text g.accepted.0.text g.accepted.0.holds g.gives) itself in
      one n.number c.0.to c.0.to g.accepted.0.text g.gives.written.tree g.before g.gives.after g.root g.root
      g.accepted.0.holds.tree g.gives.written.holds.tree same first last c.1 c.2
      (n.apart g.accepted.0.text g.gives.written.tree (inl refl) (inr (inl refl)))
      read_closed.0 g.gives.written.closed read_closed.1 g.gives.written.numbered

  -- the text that is written says the module that the bytes say
  pub unchanged : HaveOneModule bytes text
  unchanged = record {
    tree = g.accepted.0.text;
    other_tree = g.gives.written.again;
    says_it = g.accepted.0.says_it;
    other_says = g.gives.written.accepted.says_it;
    same = written_same ∙ sym g.gives.written.same;
  }
