-- What the buffers of a play have to hold, and hold in the end.
use Rattle.std.proofs.Common.{◌≡◌, ℕ, ◌*◌, ◌≤◌, true, List, sym, ap, subst, ◌∙◌, arith, length, replicate, if◌then◌else◌}
use Rattle.std.proofs.Math.Logic.{∥∥₁_map}
use Rattle.std.proofs.lemmas.Bool.{and_parts, eqb-true, leb-true}
use Rattle.chip_model.specs.Geometry.{IsChipSize, sector_count}
use Rattle.flash_disk.specs.Contents.{contents_of}
use Rattle.flash_disk.proofs.Sectors.{length-contents}
use Rattle.page.specs.Story.{has_lengths, Plays, power_at, Story}
use Rattle.page.specs.Tape.{Bus, Run}
use Rattle.page.specs.declared.step.Power.{Power}

pub record Lengths (script answers image contents frames : List ℕ) : Type 0 where
  pub steps : length script ≡ 8 * length answers
  pub few : length answers ≤ 4096
  pub chip : length image ≡ 65536
  pub sectors : length contents ≡ 35840
  pub rows : length frames ≡ 524288

pub lengths_of : (script answers image contents frames : List ℕ) → has_lengths script answers image contents frames ≡ true → Lengths script answers image contents frames
lengths_of script answers image contents frames e =
    let a = and_parts _ _ e in
    let b = and_parts _ _ a.0 in
    let c = and_parts _ _ b.0 in
    let d = and_parts _ _ c.0 in
    record {
      steps = eqb-true _ _ d.0;
      few = leb-true _ _ d.1;
      chip = eqb-true _ _ c.1;
      sectors = eqb-true _ _ b.1;
      rows = eqb-true _ _ a.1;
    }

size_of : (n : ℕ) → IsChipSize n → 512 * sector_count n ≡ 35840 → n ≡ 65536
size_of n size e = let w = size.whole in let l = size.least in let m = size.most in omega (arith, w, l, m, e)

-- a chip with 70 sectors has 64 KiB
pub memory_size : (m : List ℕ) → IsChipSize (length m) → length (contents_of m) ≡ 35840 → length m ≡ 65536
memory_size m size e = size_of (length m) size (sym (length-contents m) ∙ e)

-- what is handed out, from what each call of a play says
pub told_play : (script answers image contents frames m rows : List ℕ) (n count k read : ℕ) (p : Power) (b : Bus) (c0 c1 c2 c3 : List ℕ)
    → c0 ≡ replicate 35840 0 → length answers ≡ n → Story c0 script answers n c1 → c2 ≡ c1 → c3 ≡ c2 → contents_of m ≡ c3 → image ≡ m
    → p ≡ power_at script answers n → read ≡ (if p.on then 1 else 0) → (read ≡ 1 → contents ≡ c2)
    → frames ≡ rows → length rows ≡ 524288 → count ≡ k → (8 * k ≤ 524288 → ∥ Run rows k b ∥₁) → b.chip.memory ≡ m
    → Plays script answers image contents frames count read
told_play script answers image contents frames m rows n count k read p b c0 c1 c2 c3 zeros long story armed kept held out power is_read back noted all_rows number run here =
    let last : contents_of image ≡ c2 = ap (λ x. contents_of x) out ∙ (held ∙ kept) in
    record {
      story = subst (λ x. Story x script answers (length answers) (contents_of image)) zeros
          (subst (λ j. Story c0 script answers j (contents_of image)) (sym long)
          (subst (λ x. Story c0 script answers n x) (sym (last ∙ armed)) story));
      is_read = subst (λ j. read ≡ (if (power_at script answers j).on then 1 else 0)) (sym long)
          (subst (λ (q : Power). read ≡ (if q.on then 1 else 0)) power is_read);
      read_back = λ e. back e ∙ sym last;
      run = λ fits. ∥∥₁_map (run (omega (arith, fits, ap (λ (x : List ℕ). length x) noted, all_rows, number))) (λ r. (
        b,
        subst (λ x. Run x count b) (sym noted) (subst (λ j. Run rows j b) (sym number) r),
        here ∙ sym out,
      ));
    }
