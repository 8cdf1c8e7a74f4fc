-- A query over a link whose state nothing changes.
-- for: query::QueryIssuer::prepare_beside
use Rattle.std.proofs.Common.{◌≡◌, ◌∙◌, ℕ, zero, suc, Bool, List, Option, Some, None, inl, inr, sym, subst}
use Rattle.iso_msg.specs.Messages.{PlainMessage}
use Rattle.sw_context.specs.Pairs.{Pairs, find}
use Rattle.sw_messages.specs.declared.class.Class.{Class}
use Rattle.sw_messages.specs.declared.class.Class.TheVariants.{Authorization, Reversal, NetworkManagement}
use Rattle.sw_messages.specs.Requests.{request_in, class_of}
use Rattle.sw_mux.specs.Keys.{key}
use Rattle.sw_parts.specs.Queries.{Sending, Receiving, Starving, Hears, Came, Taken, Asks, AsksByKey, QueriesByClass, QueriesBy, Queries, answer_in}
use Rattle.sw_parts.specs.Staying.{Stays}

module _ (L : Sending) (R : Receiving) (S : Starving) (F : Type 0) where
  taken : (a : Option PlainMessage) (u : List ℕ) (r : Option PlainMessage) (t : List ℕ) (P : Type 0) → (P → t ≡ u) → Taken a u r t P → t ≡ u
  taken None u r t P later p = later p
  taken (Some m) u r t P later p = p.1

  came : (k : List ℕ) (a : Option (List ℕ)) (u : List ℕ) (r : Option PlainMessage) (t : List ℕ) (P : Type 0) → (P → t ≡ u) → Came F k a u r t P → t ≡ u
  came k None u r t P later p = p.1
  came k (Some bytes) u r t P later (inl p) = p.1.1
  came k (Some bytes) u r t P later (inr p) = taken (answer_in k bytes) u r t P later p

  heard : (n : ℕ) (k s : List ℕ) (r : Option PlainMessage) (t : List ℕ) → Stays L R s → Hears R S F n k s r t → t ≡ s
  heard zero k s r t h p = p.1
  heard (suc n) k s r t h (inl p) = p.1.1
  heard (suc n) k s r t h (inr (a, u, p, q)) =
      let e = h.received a u p in
      came k a u r t (Hears R S F n k u r t) (heard n k u r t (subst (λ (z : List ℕ). Stays L R z) (sym e) h)) q ∙ e

  module _ (has_stand_in : Bool) where
    asks : (bytes k s : List ℕ) (x : Pairs) (byte : ℕ) (t : List ℕ) (y : Pairs) → Stays L R s → Asks L R S F has_stand_in bytes k s x byte t y → t ≡ s
    asks bytes k s x byte t y h (u, r, p, q, _) =
        let e = h.sent bytes u p in
        heard 8 k u r t (subst (λ (z : List ℕ). Stays L R z) (sym e) h) q ∙ e

    by_key : (k : Option (List ℕ)) (bytes s : List ℕ) (x : Pairs) (byte : ℕ) (t : List ℕ) (y : Pairs) → Stays L R s →
        AsksByKey L R S F has_stand_in k bytes s x byte t y → t ≡ s
    by_key None bytes s x byte t y h p = p.1
    by_key (Some k) bytes s x byte t y h p = asks bytes k s x byte t y h p

    by_class : (c : Option Class) (m : PlainMessage) (bytes s : List ℕ) (x : Pairs) (byte : ℕ) (t : List ℕ) (y : Pairs) → Stays L R s →
        QueriesByClass L R S F has_stand_in c m bytes s x byte t y → t ≡ s
    by_class (Some Authorization) m bytes s x byte t y h p = by_key (key m) bytes s x byte t y h p
    by_class (Some Reversal) m bytes s x byte t y h p = p.1
    by_class (Some NetworkManagement) m bytes s x byte t y h p = p.1
    by_class None m bytes s x byte t y h p = p.1

    by : (m : Option PlainMessage) (bytes s : List ℕ) (x : Pairs) (byte : ℕ) (t : List ℕ) (y : Pairs) → Stays L R s →
        QueriesBy L R S F has_stand_in m bytes s x byte t y → t ≡ s
    by None bytes s x byte t y h p = p.1
    by (Some m) bytes s x byte t y h p = by_class (class_of m.mti) m bytes s x byte t y h p

    pub stays : (s : List ℕ) (x : Pairs) (byte : ℕ) (t : List ℕ) (y : Pairs) → Stays L R s → Queries L R S F has_stand_in s x byte t y → t ≡ s
    stays s x byte t y h p = by (request_in x) _ s x byte t y h p
