-- Whether a flag is among the words, whether an option is, and what the words after `--sync` and
-- `--tidy` say.
use Rattle.std.proofs.Common.{◌≡◌, Bool, true, false, List, [], ℕ, Option, Some, None, ap, refl, codes}
use Rattle.std.specs.Prelude.{not, option_and_then, option_map, slice_get, unwrap_or, find, if◌then◌else◌}
use Rattle.std.specs.Str.{bytes_eq}
use Rattle.clap.specs.Values.{read_as}
use Rattle.clap.specs.Walk.{row_text}
use Rattle.clap.specs.Words.{Row, Text, first_of, one_of}
use Rattle.norbd_line.specs.Line.{sync_of, tidy_of}
use Rattle.norbd_line.specs.declared.line.SyncPolicy.{SyncPolicy}
use Rattle.norbd_line.specs.declared.line.SyncPolicy.TheVariants.{AtFlush, Never, Always}
use Rattle.norbd_line.specs.declared.line.TidyPolicy.{TidyPolicy}
use Rattle.norbd_line.specs.declared.line.TidyPolicy.TheVariants.{Lazily, Eagerly}

pub not-twice : (b : Bool) → not (not b) ≡ b
not-twice true = refl
not-twice false = refl

pub some-same : (a b : List ℕ) → Some a ≡ Some b → a ≡ b
some-same a b e = ap (λ (o : Option (List ℕ)). unwrap_or o []) e

pub none-some : (a : List ℕ) (o : Option (List ℕ)) → o ≡ None → o ≡ Some a → ⊥
none-some a None none some = cc
none-some a (Some x) none some = cc

-- an option without a first text has none that is read as a number
pub no_first-no_one : (id : Text) (rows : List Row) → first_of id rows ≡ None → one_of id rows ≡ None
no_first-no_one id rows none = go (find (λ r. bytes_eq r.id id) rows) none
  where
    go : (o : Option Row) → option_and_then (λ (r : Row). slice_get r.values 0) o ≡ None → option_and_then row_text o ≡ None
    go None e = refl
    go (Some r) e = ap (option_map (read_as r.reading)) e

abbrev pick : Bool → Bool → Bool → Option SyncPolicy
pick a b c = if a then Some AtFlush else if b then Some Never else if c then Some Always else None

picks_flush : (a b c : Bool) → a ≡ true → pick a b c ≡ Some AtFlush
picks_flush true b c e = refl
picks_flush false b c e = absurd cc

picks_never : (a b c : Bool) → a ≡ false → b ≡ true → pick a b c ≡ Some Never
picks_never false true c d e = refl
picks_never true b c d e = absurd cc
picks_never false false c d e = absurd cc

picks_always : (a b c : Bool) → a ≡ false → b ≡ false → c ≡ true → pick a b c ≡ Some Always
picks_always false false true d e f = refl
picks_always true b c d e f = absurd cc
picks_always false true c d e f = absurd cc
picks_always false false false d e f = absurd cc

picks_nothing : (a b c : Bool) → a ≡ false → b ≡ false → c ≡ false → pick a b c ≡ None
picks_nothing false false false d e f = refl
picks_nothing true b c d e f = absurd cc
picks_nothing false true c d e f = absurd cc
picks_nothing false false true d e f = absurd cc

pub says_flush : (w : Text) → bytes_eq w (codes "flush") ≡ true → sync_of (Some w) ≡ Some AtFlush
says_flush w = picks_flush (bytes_eq w (codes "flush")) (bytes_eq w (codes "never")) (bytes_eq w (codes "always"))

pub says_never : (w : Text) → bytes_eq w (codes "flush") ≡ false → bytes_eq w (codes "never") ≡ true → sync_of (Some w) ≡ Some Never
says_never w = picks_never (bytes_eq w (codes "flush")) (bytes_eq w (codes "never")) (bytes_eq w (codes "always"))

pub says_always : (w : Text) → bytes_eq w (codes "flush") ≡ false → bytes_eq w (codes "never") ≡ false → bytes_eq w (codes "always") ≡ true → sync_of (Some w) ≡ Some Always
says_always w = picks_always (bytes_eq w (codes "flush")) (bytes_eq w (codes "never")) (bytes_eq w (codes "always"))

pub says_nothing : (w : Text) → bytes_eq w (codes "flush") ≡ false → bytes_eq w (codes "never") ≡ false → bytes_eq w (codes "always") ≡ false → sync_of (Some w) ≡ None
says_nothing w = picks_nothing (bytes_eq w (codes "flush")) (bytes_eq w (codes "never")) (bytes_eq w (codes "always"))

abbrev pick_tidy : Bool → Bool → Option TidyPolicy
pick_tidy a b = if a then Some Lazily else if b then Some Eagerly else None

picks_lazy : (a b : Bool) → a ≡ true → pick_tidy a b ≡ Some Lazily
picks_lazy true b e = refl
picks_lazy false b e = absurd cc

picks_eager : (a b : Bool) → a ≡ false → b ≡ true → pick_tidy a b ≡ Some Eagerly
picks_eager false true d e = refl
picks_eager true b d e = absurd cc
picks_eager false false d e = absurd cc

picks_no_tidy : (a b : Bool) → a ≡ false → b ≡ false → pick_tidy a b ≡ None
picks_no_tidy false false d e = refl
picks_no_tidy true b d e = absurd cc
picks_no_tidy false true d e = absurd cc

pub says_lazy : (w : Text) → bytes_eq w (codes "lazy") ≡ true → tidy_of (Some w) ≡ Some Lazily
says_lazy w = picks_lazy (bytes_eq w (codes "lazy")) (bytes_eq w (codes "eager"))

pub says_eager : (w : Text) → bytes_eq w (codes "lazy") ≡ false → bytes_eq w (codes "eager") ≡ true → tidy_of (Some w) ≡ Some Eagerly
says_eager w = picks_eager (bytes_eq w (codes "lazy")) (bytes_eq w (codes "eager"))

pub says_no_tidy : (w : Text) → bytes_eq w (codes "lazy") ≡ false → bytes_eq w (codes "eager") ≡ false → tidy_of (Some w) ≡ None
says_no_tidy w = picks_no_tidy (bytes_eq w (codes "lazy")) (bytes_eq w (codes "eager"))
