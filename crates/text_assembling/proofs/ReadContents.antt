-- What is said in a content is said in what is read of it through its box.
use Rattle.std.proofs.Common.{◌≡◌, ℕ, List, sym, subst}
use Rattle.ir_forest.specs.Forest.{ActionSpan}
use Rattle.ir_names.specs.Tree.{Trees}
use Rattle.ir_print.specs.Pieces.{Pieces, Values}
use Rattle.ir_print.specs.Shown.{Saying, ShowsParts}
use Rattle.text_frames.specs.Frames.{SaysParts}
use Rattle.text_frames.specs.declared.opened.Content.{Content}

module _ {D K A T : Type 0} {read boxed : Content D K A T} (e : read ≡ boxed) where
  pub parts_read : (says : Saying K A T) (types : List T) (ps : Pieces) → ShowsParts says types boxed.parts.items ps → ShowsParts says types read.parts.items ps
  parts_read says types ps h = subst (λ (c : Content D K A T). ShowsParts says types c.parts.items ps) (sym e) h

  pub says_read : {says : Saying K A T} {values : Values} {text : ℕ → List ℕ} {types : List T} {ts : Trees ActionSpan} → SaysParts says values text types boxed ts → SaysParts says values text types read ts
  says_read {says} {values} {text} {types} {ts} h = subst (λ (c : Content D K A T). SaysParts says values text types c ts) (sym e) h
