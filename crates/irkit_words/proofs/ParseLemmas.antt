-- What words come to that a parse refuses.
use Rattle.std.proofs.Common.{◌≡◌, ◌≢◌, ◌⊎◌, ◌∙◌, List, inl, inr, sym, subst, true}
use Rattle.clap.specs.Words.{IsAmong, Text, fault_of, takes}
use Rattle.clap.specs.declared.error.kind.ErrorKind.{ErrorKind}
use Rattle.clap.specs.declared.error.kind.ErrorKind.TheVariants.{OutOfMemory, DisplayHelp, DisplayVersion}
use Rattle.irkit_words.specs.CommandLine.{irkit}
use Rattle.irkit_words.specs.Parses.{HasFault, ParseAs, RefusedAs}
use Rattle.irkit_words.specs.declared.parsing.Parsed.{Parsed}
use Rattle.irkit_words.specs.declared.parsing.Parsed.TheVariants.{Asked, Mistaken, HelpWanted, VersionWanted, NoMemory}

module _ (words : List Text) (kind : ErrorKind) (taken : takes irkit words ≡ true → kind ≡ OutOfMemory) where
  -- an error that isn't of memory is a fault of the words
  fault_is : (other : ErrorKind) → kind ≡ other → other ≢ OutOfMemory
      → (kind ≡ OutOfMemory) ⊎ IsAmong kind (fault_of irkit words) → HasFault words other
  fault_is other is not_full (inl full) = absurd (not_full (sym is ∙ full))
  fault_is other is not_full (inr among) =
      (subst (λ k. IsAmong k (fault_of irkit words)) is among, λ t. not_full (sym is ∙ taken t))

  pub refused : (parsed : Parsed) → (kind ≡ OutOfMemory) ⊎ IsAmong kind (fault_of irkit words) → RefusedAs kind parsed
      → ParseAs words parsed
  refused (Asked request) why h = absurd h
  refused (Mistaken line) (inl full) h = absurd (h.0.0 full)
  refused (Mistaken line) (inr among) h = (inl (kind, (among, λ t. h.0.0 (taken t)), h.0), h.1)
  refused (HelpWanted text) why h = fault_is DisplayHelp h (λ e. cc e) why
  refused (VersionWanted text) why h = (fault_is DisplayVersion h.0 (λ e. cc e) why, h.1)
  refused NoMemory why h = tt
