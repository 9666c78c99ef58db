use Rattle.std.proofs.Common.{◌≡◌, ◌∙◌, ℕ, ◌∷◌, [], List, refl, ap, sym, subst}
use Rattle.page.specs.Tape.{armed, arming, begins, bus_of, Happens}
use Rattle.page.proofs.Taping.{noted}
use Rattle.page.proofs.tape.TapedSpiBus.arm.Goals.{then-kind-ne-MARK, else-kind-ne-MARK}
use Rattle.page.proofs.tape.TapedSpiBus.arm.Goals as goal

row_is : (a kind mask : ℕ) (n : ℕ) → a ≡ n → (0 ∷ kind ∷ mask ∷ a ∷ 0 ∷ 0 ∷ 0 ∷ 0 ∷ []) ≡ (0 ∷ kind ∷ mask ∷ n ∷ 0 ∷ 0 ∷ 0 ∷ 0 ∷ [])
row_is a kind mask n e = ap (λ x. 0 ∷ kind ∷ mask ∷ x ∷ 0 ∷ 0 ∷ 0 ∷ 0 ∷ []) e

pub invariant_of-self : goal.invariant_of-self
invariant_of-self c =
    let row : List ℕ = 0 ∷ c.args.kind ∷ c.args.mask ∷ c.short.result ∷ 0 ∷ 0 ∷ 0 ∷ 0 ∷ [] in
    let is : row ≡ arming c.args.count c.args.kind c.args.mask = row_is _ c.args.kind c.args.mask _ c.short.ensures in
    record {
      room = c.put_row.ensures.size ∙ c.args.self.now.room;
      run = noted _ _ row _ _ (bus_of c.args.self.now.chip) _ c.args.self.now.room refl c.next-self.ensures c.put_row.ensures.put c.args.self.now.run
          (elim c.if-kind-ne-MARK.branch [
            | then-kind-ne-MARK w ↦ subst (λ s. Happens row (bus_of c.args.self.now.chip) (bus_of s.1.0)) (sym w.self-is) (armed _ _ _ is w.arm.ensures.chip w.arm.ensures.armed)
            | else-kind-ne-MARK w ↦ subst (λ s. Happens row (bus_of c.args.self.now.chip) (bus_of s.1.0)) (sym w.self-is) (begins _ _ (is ∙ ap (λ k. arming c.args.count k c.args.mask) w.if-kind-ne-MARK.false) refl refl)
          ]);
    }
