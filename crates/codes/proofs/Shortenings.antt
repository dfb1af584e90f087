-- One shortening, and what holds as the rule runs: the two fractions lie in order from 0 to 1, every kept fraction lies between them,
-- and each shortening shuts a side for good.
use mathlib.Core.Path.{◌≡◌, sym, subst}
use Prim.Native.Nat.{ℕ, suc, ◌+◌, ◌≤◌, ◌<◌}
use native.Mathlib.Nat.{zero-add}
use native.Mathlib.Omega.{arith}
use lib.IntN.{ℤ, pos, neg_ℤ}
use lib.Signed.{◌≤ℤ◌, ◌<ℤ◌}
use Rattle.whole.specs.Within.{Within}
use Rattle.whole.proofs.Order.{zarith, ≡→≤}
use Rattle.fraction.specs.declared.Fraction.{Fraction}
use Rattle.grid.specs.declared.Stroke.{Stroke}
use Rattle.grid.specs.declared.Window.{Window}
use Rattle.grid.specs.Sides.{Side, place_of}
use Rattle.spans.specs.declared.Span.{Span}
use Rattle.spans.specs.Parts.{Time, zeroth, unit}
use Rattle.spans.specs.Spans.{InSpan, ProperSpan, SpanOf}
use Rattle.spans.proofs.Cutting.{in_time}
use Rattle.spans.proofs.Parts.{all_proper, in_all, time_within}
use Rattle.strokes.specs.Strokes.{Keeps}
use Rattle.codes.specs.Codes.{past, keep, missed, shorten_start, shorten_end}
use Rattle.codes.specs.Steps.{decided, OnLine, Shortening, start, end, Run, shorten}
use Rattle.codes.proofs.Decided.{keep_inside, missed_beyond, start_beyond, end_beyond}
use Rattle.codes.proofs.Forms.{form, ◌≼◌, ≼_refl, mixed, between-≤, between->, upto_form, form_upto, from_form, form_from}
use Rattle.codes.proofs.Forms.{slope, base, beyond_form, form_beyond, inside_form, form_inside, on_form}
use Rattle.codes.proofs.Sides.{fraction, keeps_inside, inside_keeps, open_sides, open_falls, open-≤, shut, shut_inside, inside_shut, beyond_open}

abbrev pub span : Fraction → Fraction → Span
span f g = record { first = f; last = g }

pub record Ordered (f g : Fraction) : Type 0 where
  pub proper : ProperSpan (span f g)
  pub order : f ≼ g

module _ {f g : Fraction} (o : Ordered f g) where
  pub first_time : Time f.num f.den
  first_time = in_time o.proper o.proper.den0 (record { from = ≼_refl f; upto = o.order })

  pub last_time : Time g.num g.den
  last_time = in_time o.proper o.proper.den1 (record { from = o.order; upto = ≼_refl g })

-- every form that is not positive at the ends f and g is not positive at c
abbrev Mixed : Fraction → Fraction → Fraction → Type 0
Mixed f g c = (a b : ℤ) → form a b f ≤ℤ pos 0 → form a b g ≤ℤ pos 0 → form a b c ≤ℤ pos 0

module _ (w : Window) (s : Stroke) (k : Side) where
  side_mixed : (x y c : Fraction) → pos 0 <ℤ x.den → pos 0 <ℤ y.den → pos 0 <ℤ past w s k x → past w s k y ≤ℤ pos 0 → OnLine w s k c → Mixed x y c
  side_mixed x y c hx hy beyond inside on =
      mixed (slope w s k) (base w s k) x y c hx hy on.den (beyond_form w s k x beyond) (inside_form w s k y inside) (on_form w s k c on.on)

module _ {f g c : Fraction} (m : Mixed f g c) where
  mixed_in : f ≼ g → InSpan (span f g) c.num c.den
  mixed_in o = record {
    from = form_from c f (m (neg_ℤ f.den) f.num (from_form f f (≼_refl f)) (from_form g f o));
    upto = form_upto c g (m g.den (neg_ℤ g.num) (upto_form f g o) (upto_form g g (≼_refl g)));
  }

  mixed_past : (w : Window) (s : Stroke) (k : Side) → past w s k f ≤ℤ pos 0 → past w s k g ≤ℤ pos 0 → past w s k c ≤ℤ pos 0
  mixed_past w s k p q =
      form_inside w s k c (m (slope w s k) (base w s k) (inside_form w s k f p) (inside_form w s k g q))

-- ---- one shortening
not_both : {z : ℤ} → pos 0 <ℤ z → z ≤ℤ pos 0 → ⊥
not_both h k = omega zarith

module _ {w : Window} {s : Stroke} where
  start_mixed : {f g : Fraction} (c : Fraction) (k : Side) → Ordered f g → decided w s f g ≡ shorten_start (place_of k) → OnLine w s k c → Mixed f g c
  start_mixed {f} {g} c k o e on = let b = start_beyond w s f g k e in side_mixed w s k f g c o.proper.den0 o.proper.den1 b.0 b.1 on

  end_mixed : {f g : Fraction} (c : Fraction) (k : Side) → Ordered f g → decided w s f g ≡ shorten_end (place_of k) → OnLine w s k c → Mixed f g c
  end_mixed {f} {g} c k o e on = let b = end_beyond w s f g k e in λ x y p q. side_mixed w s k g f c o.proper.den1 o.proper.den0 b.1 b.0 on x y q p

  pub shortened_ordered : {f g f' g' : Fraction} → Ordered f g → Shortening w s f g f' g' → Ordered f' g'
  shortened_ordered {f} {g} o (start {h = c} k e on) =
      let i = mixed_in (start_mixed c k o e on) o.order in record {
        proper = record { low = (in_time o.proper on.den i).low; high = o.proper.high; den0 = on.den; den1 = o.proper.den1 };
        order = i.upto;
      }
  shortened_ordered {f} {g} o (end {h = c} k e on) =
      let i = mixed_in (end_mixed c k o e on) o.order in record {
        proper = record { low = o.proper.low; high = (in_time o.proper on.den i).high; den0 = o.proper.den0; den1 = on.den };
        order = i.from;
      }

  -- a kept fraction lies beyond no side, so it stays between the two
  shortened_stays : {f g f' g' : Fraction} → Ordered f g → Shortening w s f g f' g' → (n d : ℤ) → Keeps w s n d → InSpan (span f g) n d → InSpan (span f' g') n d
  shortened_stays {f} {g} o (start {h = c} k e on) n d h i =
      let t = fraction n d in
      let m = side_mixed w s k f t c o.proper.den0 h.time.den (start_beyond w s f g k e).0 (keeps_inside w s n d h k) on in
      record { from = form_upto c t (m d (neg_ℤ n) (upto_form f t i.from) (upto_form t t (≼_refl t))); upto = i.upto }
  shortened_stays {f} {g} o (end {h = c} k e on) n d h i =
      let t = fraction n d in
      let m = side_mixed w s k g t c o.proper.den1 h.time.den (end_beyond w s f g k e).1 (keeps_inside w s n d h k) on in
      record { from = i.from; upto = form_from c t (m (neg_ℤ d) n (from_form g t i.upto) (from_form t t (≼_refl t))) }

  -- no side opens again, and the shortened side is shut
  pub shortened_falls : {f g f' g' : Fraction} → Ordered f g → Shortening w s f g f' g' → open_sides (shut w s f' g') < open_sides (shut w s f g)
  shortened_falls {f} {g} o (start {h = c} k e on) =
      let b = start_beyond w s f g k e in
      open_falls (shut w s f g) (shut w s c g)
      (λ j t. let u = shut_inside w s f g j t in inside_shut w s c g j (mixed_past (start_mixed c k o e on) w s j u.0 u.1) u.1)
      k
      (beyond_open w s f g k (λ u. not_both b.0 u.0))
      (inside_shut w s c g k (≡→≤ on.on) b.1)
  shortened_falls {f} {g} o (end {h = c} k e on) =
      let b = end_beyond w s f g k e in
      open_falls (shut w s f g) (shut w s f c)
      (λ j t. let u = shut_inside w s f g j t in inside_shut w s f c j u.0 (mixed_past (end_mixed c k o e on) w s j u.0 u.1))
      k
      (beyond_open w s f g k (λ u. not_both b.1 u.1))
      (inside_shut w s f c k b.0 (≡→≤ on.on))

-- ---- as the rule runs: after n shortenings the part from f to g is left
pub record Reached (w : Window) (s : Stroke) (f g : Fraction) (n : ℕ) : Type 0 where
  pub ordered : Ordered f g
  pub stays : (p q : ℤ) → Keeps w s p q → InSpan (span f g) p q
  pub resumed : (m : ℕ) → Run w s f g m → Run w s zeroth unit (n + m)
  pub few : n + open_sides (shut w s f g) ≤ 4

pub first_ordered : Ordered zeroth unit
first_ordered = record { proper = all_proper; order = omega zarith }

module _ {w : Window} {s : Stroke} where
  pub reached_first : Reached w s zeroth unit 0
  reached_first = record {
    ordered = first_ordered;
    stays = λ p q h. in_all h.time;
    resumed = λ m r. subst (Run w s zeroth unit) (sym (zero-add m)) r;
    few = omega (arith, open-≤ (shut w s zeroth unit));
  }

  module _ {f g : Fraction} {n : ℕ} (r : Reached w s f g n) where
    pub reached_next : {f' g' : Fraction} → Shortening w s f g f' g' → Reached w s f' g' (n + 1)
    reached_next {f'} {g'} t = record {
      ordered = shortened_ordered r.ordered t;
      stays = λ p q h. shortened_stays r.ordered t p q h (r.stays p q h);
      resumed = λ m u. subst (Run w s zeroth unit) (omega arith) (r.resumed (suc m) (shorten t u));
      few = omega (arith, shortened_falls r.ordered t, r.few);
    }

    pub reached_less : {f' g' : Fraction} → Shortening w s f g f' g' → n < 4
    reached_less t = omega (arith, shortened_falls r.ordered t, r.few)

    pub reached_end : Run w s f g 0 → Run w s zeroth unit n
    reached_end u = subst (Run w s zeroth unit) (omega arith) (r.resumed 0 u)

    -- both points are in the window: so is every point between them
    pub reached_keep : decided w s f g ≡ keep → Within 32766 f.den → Within 32766 g.den → SpanOf 32766 (Keeps w s) (span f g)
    reached_keep e wf wg = record {
      proper = r.ordered.proper;
      sized = record { n0 = time_within (first_time r.ordered) wf; d0 = wf; n1 = time_within (last_time r.ordered) wg; d1 = wg };
      stays = r.stays;
      keeps = λ p q h i. inside_keeps w s p q (in_time r.ordered.proper h i) (λ k. let u = keep_inside w s f g e k in inside p q h i k u.0 u.1);
    }
      where
        inside : (p q : ℤ) → pos 0 <ℤ q → InSpan (span f g) p q → (k : Side) → past w s k f ≤ℤ pos 0 → past w s k g ≤ℤ pos 0 → past w s k (fraction p q) ≤ℤ pos 0
        inside p q h i k x y =
            form_inside w s k (fraction p q)
            (between-≤ f (fraction p q) g r.ordered.proper.den0 h r.ordered.proper.den1 i.from i.upto (slope w s k) (base w s k)
            (inside_form w s k f x) (inside_form w s k g y))

    -- both points are beyond one side: so is every point between them
    pub reached_missed : decided w s f g ≡ missed → (p q : ℤ) → Keeps w s p q → ⊥
    reached_missed e p q h =
        let b = missed_beyond w s f g e in
        let i = r.stays p q h in
        not_both
        (form_beyond w s b.0 (fraction p q)
        (between-> f (fraction p q) g r.ordered.proper.den0 h.time.den r.ordered.proper.den1 i.from i.upto (slope w s b.0) (base w s b.0)
        (beyond_form w s b.0 f b.1) (beyond_form w s b.0 g b.2)))
        (keeps_inside w s p q h b.0)
