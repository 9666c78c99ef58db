-- Of connections that end one after another, one ended by a lost command.
use Rattle.std.proofs.Common.{◌≡◌, ℕ, List, [], ◌∷◌, ◌++◌, Bool, true, false, refl, sym, ◌∙◌, subst, if◌then◌else◌}
use Rattle.nbd_worker.specs.declared.attending.End.{End}
use Rattle.nbd_worker.specs.declared.attending.End.TheVariants.{Closed, EndOfInput, Input, Output, Lost, OutOfMemory}
use Rattle.nbd_history.specs.Notes.{Sight}
use Rattle.nbd_wire.specs.declared.export.Export.{Export}
use Rattle.nbd_share.specs.declared.recorder.Row.{Row}
use Rattle.nbd_share.specs.History.{IsLegal}
use Rattle.norbd_serve.specs.Serving.{AreLegal, has_lost, is_lost}

either-way : (b : Bool) → true ≡ (if b then true else true)
either-way true = refl
either-way false = refl

pub has_lost_one_more : (ends : List End) (end : End) → has_lost (ends ++ end ∷ []) ≡ (if is_lost end then true else has_lost ends)
has_lost_one_more [] end = refl
has_lost_one_more (Closed ∷ more) end = has_lost_one_more more end
has_lost_one_more (EndOfInput ∷ more) end = has_lost_one_more more end
has_lost_one_more (Input ∷ more) end = has_lost_one_more more end
has_lost_one_more (Output ∷ more) end = has_lost_one_more more end
has_lost_one_more (Lost ∷ more) end = either-way (is_lost end)
has_lost_one_more (OutOfMemory ∷ more) end = has_lost_one_more more end

-- one more that did not
pub none_lost_more : (ends : List End) (end : End) → has_lost ends ≡ false → is_lost end ≡ false → has_lost (ends ++ end ∷ []) ≡ false
none_lost_more ends end none lives = has_lost_one_more ends end ∙ (subst (λ b. (if b then true else has_lost ends) ≡ has_lost ends) (sym lives) refl ∙ none)

-- one more hand whose history is legal
pub legal_more : (export : Export) (base : List ℕ) (hands : List (Sight Row)) (hand : Sight Row) → AreLegal export base hands → IsLegal export base false hand.seen → AreLegal export base (hands ++ hand ∷ [])
legal_more export base [] hand all one = (one, tt)
legal_more export base (first ∷ more) hand all one = (all.0, legal_more export base more hand all.1 one)
