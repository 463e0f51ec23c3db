-- Which bits of the words are fixed by the situation that they say. Assumes nothing.
use mathlib.Core.Path.{◌≡◌, refl, ap}
use Rattle.rulebook.specs.Situation.{Situation}
use Rattle.situation.specs.Packed.{flags_of, unpacked}
use Rattle.situation.specs.declared.Situation.{Situation as Packed}
use Rattle.situation.specs.OpenBits.{Agree, OpenBits}
use Rattle.situation.proofs.CountBits.{bits_same}

agree : (x y : Packed) → unpacked x ≡ unpacked y → Agree x y
agree x y e =
    let count = bits_same 34 (flags_of x.flags) (flags_of y.flags) (ap (λ (z : Situation). z.traffic.track.watch.count) e) in
    record {
      flags = (
        ap (λ (z : Situation). z.traffic.own.orientation.out) e,
        (
          ap (λ (z : Situation). z.traffic.own.orientation.inward) e,
          (
            ap (λ (z : Situation). z.traffic.own.annulment.afbli) e,
            (
              ap (λ (z : Situation). z.traffic.own.annulment.afble) e,
              (
                ap (λ (z : Situation). z.traffic.own.exit.normal) e,
                (
                  ap (λ (z : Situation). z.traffic.own.exit.special) e,
                  (
                    ap (λ (z : Situation). z.traffic.own.entry) e,
                    (
                      ap (λ (z : Situation). z.traffic.own.bilc) e,
                      (
                        ap (λ (z : Situation). z.traffic.own.bslg) e,
                        (
                          ap (λ (z : Situation). z.traffic.own.reminder) e,
                          (
                            ap (λ (z : Situation). z.traffic.pending.own) e,
                            (
                              ap (λ (z : Situation). z.traffic.other.orientation.out) e,
                              (
                                ap (λ (z : Situation). z.traffic.other.orientation.inward) e,
                                (
                                  ap (λ (z : Situation). z.traffic.other.annulment.afbli) e,
                                  (
                                    ap (λ (z : Situation). z.traffic.other.annulment.afble) e,
                                    (
                                      ap (λ (z : Situation). z.traffic.other.exit.normal) e,
                                      (
                                        ap (λ (z : Situation). z.traffic.other.exit.special) e,
                                        (
                                          ap (λ (z : Situation). z.traffic.other.entry) e,
                                          (
                                            ap (λ (z : Situation). z.traffic.other.bilc) e,
                                            (
                                              ap (λ (z : Situation). z.traffic.other.bslg) e,
                                              (
                                                ap (λ (z : Situation). z.traffic.other.reminder) e,
                                                (
                                                  ap (λ (z : Situation). z.traffic.pending.other) e,
                                                  (
                                                    ap (λ (z : Situation). z.traffic.link) e,
                                                    (
                                                      ap (λ (z : Situation). z.traffic.track.watch.mark) e,
                                                      (count.0, (count.1.0, (count.1.1.0, (count.1.1.1, tt)))),
                                                    ),
                                                  ),
                                                ),
                                              ),
                                            ),
                                          ),
                                        ),
                                      ),
                                    ),
                                  ),
                                ),
                              ),
                            ),
                          ),
                        ),
                      ),
                    ),
                  ),
                ),
              ),
            ),
          ),
        ),
      );
      occupied = ap (λ (z : Situation). z.traffic.track.occupied) e;
      heldb = ap (λ (z : Situation). z.signals.held.towardsb) e;
      helda = ap (λ (z : Situation). z.signals.held.towardsa) e;
    }

same : (x y : Packed) → Agree x y → unpacked x ≡ unpacked y
same x y a =
    let f = a.flags in
    rw
    (f.0, f.1.0, f.1.1.0, f.1.1.1.0, f.1.1.1.1.0, f.1.1.1.1.1.0, f.1.1.1.1.1.1.0, f.1.1.1.1.1.1.1.0, f.1.1.1.1.1.1.1.1.0, f.1.1.1.1.1.1.1.1.1.0, f.1.1.1.1.1.1.1.1.1.1.0, f.1.1.1.1.1.1.1.1.1.1.1.0, f.1.1.1.1.1.1.1.1.1.1.1.1.0, f.1.1.1.1.1.1.1.1.1.1.1.1.1.0, f.1.1.1.1.1.1.1.1.1.1.1.1.1.1.0, f.1.1.1.1.1.1.1.1.1.1.1.1.1.1.1.0, f.1.1.1.1.1.1.1.1.1.1.1.1.1.1.1.1.0, f.1.1.1.1.1.1.1.1.1.1.1.1.1.1.1.1.1.0, f.1.1.1.1.1.1.1.1.1.1.1.1.1.1.1.1.1.1.0, f.1.1.1.1.1.1.1.1.1.1.1.1.1.1.1.1.1.1.1.0, f.1.1.1.1.1.1.1.1.1.1.1.1.1.1.1.1.1.1.1.1.0, f.1.1.1.1.1.1.1.1.1.1.1.1.1.1.1.1.1.1.1.1.1.0, f.1.1.1.1.1.1.1.1.1.1.1.1.1.1.1.1.1.1.1.1.1.1.0, f.1.1.1.1.1.1.1.1.1.1.1.1.1.1.1.1.1.1.1.1.1.1.1.0, f.1.1.1.1.1.1.1.1.1.1.1.1.1.1.1.1.1.1.1.1.1.1.1.1.0, f.1.1.1.1.1.1.1.1.1.1.1.1.1.1.1.1.1.1.1.1.1.1.1.1.1.0, f.1.1.1.1.1.1.1.1.1.1.1.1.1.1.1.1.1.1.1.1.1.1.1.1.1.1.0, f.1.1.1.1.1.1.1.1.1.1.1.1.1.1.1.1.1.1.1.1.1.1.1.1.1.1.1.0, a.occupied, a.heldb, a.helda)
    refl

pub open_bits : OpenBits
open_bits x y = (agree x y, same x y)
