-- One more cell in a search, with entries of any kind.
use Rattle.std.specs.Prelude.{⊤}
use Rattle.std.proofs.Common.{◌≡◌, IsTrue, ◌↔◌, ℕ, ◌+◌, ◌-◌, ◌<◌, ◌≤◌, cond, int_lt, ◌⊎◌, List, [], ◌∷◌, ◌++◌, map, length, ℤ, pos, ◌<ℤ◌, Bool, true, false, Some, None, Option, Ok, Err, Result, get_or, below_more, refl, sym, ap, ◌∙◌, subst, inl, inr, ⊎_elim, arith}
use Rattle.std.specs.List.{AllByRecursion as All}
use Rattle.std.proofs.lemmas.List.{length_push, length-map, map_push}
use Rattle.std.proofs.ByRecursion.{All-push, All-weaker}
use Rattle.std.proofs.lemmas.Bool.{cases_eq, false≢true}
use Rattle.std.proofs.lemmas.Int.{ints}
use Rattle.queue.proofs.Waits.{last_with_room, wanted_with_room, unwanted_same}
use Rattle.queue.specs.Queue.{waits, capacity, Enqueued, EnqueuedIf, Dequeued}
use Rattle.queue.specs.declared.Queue.{Queue}
use Rattle.flow.specs.declared.direction.Direction.{Direction}
use Rattle.flow.specs.declared.direction.Direction.TheVariants.{Right}
use Rattle.flow.specs.declared.flows.Flows.{Flows}
use Rattle.tile.specs.Tiles.{Tile}
use Rattle.flow.specs.Sides.{beside, opposite, room, remains, SameFlows, InDeficit, InSurplus}
use Rattle.cut.specs.Ranks.{rank_of, ranked_at}
use Rattle.cut.specs.Searches.{Among, Searching, Fresh, Grows, load, spots, BackTo, Backed, AllInside, Looks, Visited, Visits, Goes, GoesIf, GoesOn, Started, Ranked}
use Rattle.cut.specs.Climbs.{NoneInSurplus, Above}
use Rattle.flow.specs.Lent.{SameRows}
use Rattle.cut.specs.Lent.{Leveled}
use Rattle.cut.proofs.Directions.{ways, every_way}
use Rattle.cut.proofs.Lent.{leveled_self, leveled_trans}
use Rattle.flow.proofs.Tests.{less_true, less_false}
use Rattle.flow.proofs.Fields.{level_self, remains_level}
use Rattle.flow.proofs.Pushes.{room_there, there_in, back_across}
use Rattle.cut.proofs.Searches.{level_ranked, ranked_same, rank_here, rank_other, count_up, not_all, among_old, among_new, grows_ranked, grows_self, grows_trans, spread_grows, search_put, search_done, search_add, seen_more, begin_not}

-- for entries of any kind, by the cell of an entry and the direction back
module _ {X : Type 0} (spot : X → ℕ) (came : X → Option Direction) where
  backed_grows : (c : ℕ) (t t' : Tile) → Grows t t' → (q : List X) → All (Backed spot came c t) q → All (Backed spot came c t') q
  backed_grows c t t' g q a = All-weaker (Backed spot came c t) (Backed spot came c t') (λ s b h e. omega (arith, g.ranks (beside c h (spot s)) (b h e), b h e)) q a

  pub visited_none : (c u : ℕ) (h : Direction) (from : Option Direction) (t : Tile) (r : Queue X) → Looks spot came c u from t r → (pos 0 <ℤ room t c h u → 0 < rank_of t (beside c h u)) → Visited spot came c u h t t r r
  visited_none c u h from t r k d = record { grows = grows_self t; keeps = k.search; done = d; load_same = omega arith; backs = k.backs; olds = λ x a. a; news = λ x p. inl p }

  visited_at : (c u : ℕ) (h : Direction) (from : Option Direction) (t : Tile) (r r' : Queue X) (s : X) (b : Result ⊤ X) → Looks spot came c u from t r → beside c h u < length t → pos 0 <ℤ room t c h u → rank_of t (beside c h u) ≡ 0 → Enqueued r r' s b → spot s ≡ beside c h u → ((h' : Direction) → came s ≡ Some h' → h' ≡ opposite h) → Visited spot came c u h t (ranked_at t (beside c h u) (rank_of t u - 1)) r r'
  visited_at c u h from t r r' s b k l o z p se sf =
      let n : ℕ = rank_of t u - 1 in
      let v : ℕ = beside c h u in
      let t' : Tile = ranked_at t v n in
      let put = search_put c t (spots spot r) (length t) u h k.search l o z in
      let na = not_all t v l z in
      let len = length-map (waits r) spot in
      let q = last_with_room r r' s b p (omega (arith, k.search.few, k.rooms)) in
      let qs : spots spot r' ≡ spots spot r ++ v ∷ [] = ap (map spot) q ∙ map_push spot (waits r) s ∙ ap (λ (x : ℕ). spots spot r ++ x ∷ []) se in
      let long = (level_ranked t v n).long in
      let count = count_up t v n l z (omega (arith, put.0)) in
      let g = grows_ranked t v n z in
      let pu : 0 < rank_of t u = omega (arith, put.0) in
      let back' : Backed spot came c t' s = λ h' e.
      let he : opposite h ≡ h' = sym (sf h' e) in
      let w : beside c h' (spot s) ≡ u = ap (beside c h') se ∙ subst (λ (x : Direction). beside c x (beside c h u) ≡ u) he (back_across (length t) c h u (room_there t c h u o)) in
      subst (λ (x : ℕ). 0 < rank_of (ranked_at t (beside c h u) (rank_of t u - 1)) x) (sym w) (omega (arith, g.ranks u pu)) in
      record {
        grows = g;
        keeps = subst (λ (x : ℕ). Searching c t' (u ∷ spots spot r') x) (sym long) (subst (λ (x : List ℕ). Searching c t' (u ∷ x) (length t)) (sym qs) put.1);
        done = λ _. omega (arith, put.0, rank_here t v n l);
        load_same = omega (arith, long, count, ap length qs, length_push (spots spot r) v);
        backs = subst (λ (x : List X). All (Backed spot came c t') x) (sym q) (All-push (Backed spot came c t') (waits r) s (backed_grows c t t' g (waits r) k.backs) back');
        olds = λ x a. subst (λ (y : List ℕ). Among x y) (sym qs) (among_old x v (spots spot r) a);
        news = λ x px.
            ⊎_elim
            (λ (e : x ≡ v). inr (subst (λ (y : List ℕ). Among x y) (sym qs) (subst (λ (y : ℕ). Among y (spots spot r ++ v ∷ [])) (sym e) (among_new v (spots spot r)))))
            (λ (e : x ≡ v → ⊥). inl (omega (arith, rank_other t v n x e, px)))
            (cases_eq x v);
      }

  pub visited_put : (c u : ℕ) (h : Direction) (from : Option Direction) (t t' : Tile) (r r' : Queue X) (s : X) (v : ℕ) (b : Result ⊤ X) → Looks spot came c u from t r → Fresh c t u h v → t' ≡ ranked_at t v (rank_of t u - 1) → Enqueued r r' s b → spot s ≡ v → ((h' : Direction) → came s ≡ Some h' → h' ≡ opposite h) → Visited spot came c u h t t' r r'
  visited_put c u h from t t' r r' s v b k w te p se sf =
      let te' : t' ≡ ranked_at t (beside c h u) (rank_of t u - 1) = te ∙ ap (λ (x : ℕ). ranked_at t x (rank_of t u - 1)) w.at in
      subst (λ (x : Tile). Visited spot came c u h t x r r') (sym te')
      (visited_at c u h from t r r' s b k (subst (λ (x : ℕ). x < length t) w.at w.inside) w.open' (subst (λ (x : ℕ). rank_of t x ≡ 0) w.at w.none) p (se ∙ w.at) sf)

  -- on to the next side
  pub looks_on : (c u : ℕ) (h : Direction) (from : Option Direction) (t t' : Tile) (r r' : Queue X) → Looks spot came c u from t r → capacity r' ≡ capacity r → Visited spot came c u h t t' r r' → Looks spot came c u from t' r'
  looks_on c u h from t t' r r' k e v = record {
    search = v.keeps;
    rooms = omega (arith, e, k.rooms, v.grows.level.long);
    back_to = λ g q. omega (arith, v.grows.ranks (beside c g u) (k.back_to g q), k.back_to g q);
    backs = v.backs;
  }

  trans_news : (t t1 t2 : Tile) (r1 r2 : Queue X) → ((x : ℕ) → Among x (spots spot r1) → Among x (spots spot r2)) → ((x : ℕ) → 0 < rank_of t1 x → (0 < rank_of t x) ⊎ Among x (spots spot r1)) → ((x : ℕ) → 0 < rank_of t2 x → (0 < rank_of t1 x) ⊎ Among x (spots spot r2)) → (x : ℕ) → 0 < rank_of t2 x → (0 < rank_of t x) ⊎ Among x (spots spot r2)
  trans_news t t1 t2 r1 r2 o a b x p =
      ⊎_elim
      (λ (q : 0 < rank_of t1 x). ⊎_elim (λ (w : 0 < rank_of t x). inl w) (λ (w : Among x (spots spot r1)). inr (o x w)) (a x q))
      (λ (q : Among x (spots spot r2)). inr q)
      (b x p)

  -- the next entry is fetched
  pub seek_looks : (c : ℕ) (t : Tile) (r r1 : Queue X) (s : X) → Searching c t (spots spot r) (length t) → length t ≤ capacity r → All (Backed spot came c t) (waits r) → waits r ≡ s ∷ waits r1 → capacity r1 ≡ capacity r → Looks spot came c (spot s) (came s) t r1
  seek_looks c t r r1 s k f b q e =
      let b' : All (Backed spot came c t) (s ∷ waits r1) = subst (λ (x : List X). All (Backed spot came c t) x) q b in
      record {
        search = subst (λ (x : List ℕ). Searching c t x (length t)) (ap (map spot) q) k;
        rooms = omega arith;
        back_to = b'.0;
        backs = b'.1;
      }

  pub load_pop : (c : ℕ) (t t' : Tile) (r r1 r2 : Queue X) (s : X) → waits r ≡ s ∷ waits r1 → Visits spot came c (spot s) t t' r1 r2 → load t' (spots spot r2) < load t (spots spot r)
  load_pop c t t' r r1 r2 s q v = omega (arith, v.load_same, ap length (ap (map spot) q))

  -- in a tile of the same length
  pub inside_kept : (n n' : ℕ) (xs : List X) → n' ≡ n → All (λ x. spot x < n) xs → All (λ x. spot x < n') xs
  inside_kept n n' xs e a = subst (λ (k : ℕ). All (λ x. spot x < k) xs) (sym e) a

  -- seen from the tile before
  inside_on : (t t' : Tile) (q q' : Queue X) → SameFlows t t' → (AllInside spot t' q → AllInside spot t' q') → AllInside spot t q → AllInside spot t q'
  inside_on t t' q q' l f a = inside_kept (length t') (length t) (waits q') (sym l.long) (f (inside_kept (length t) (length t') (waits q) l.long a))

  -- the entry that is fetched, and those that still wait
  pub inside_rest : (t : Tile) (q q' : Queue X) (e : X) → Dequeued q q' (Some e) → AllInside spot t q → (spot e < length t) × AllInside spot t q'
  inside_rest t q q' e d a = let b : All (λ x. spot x < length t) (e ∷ waits q') = subst (All (λ x. spot x < length t)) d.first a in (b.0, b.1)

  -- an entry more, where there is room for it, keeps all inside
  pub inside_more : (n : ℕ) (q q' : Queue X) (e : X) (b : Result ⊤ X) → Enqueued q q' e b → spot e < n → All (λ x. spot x < n) (waits q) → All (λ x. spot x < n) (waits q')
  inside_more n q q' e (Ok _) p l a = subst (All (λ x. spot x < n)) (sym p.last) (All-push (λ x. spot x < n) (waits q) e a l)
  inside_more n q q' e (Err _) p l a = subst (λ (k : Queue X). All (λ x. spot x < n) (waits k)) (sym p.unchanged.1) a

  pub goes_none : (u : ℕ) (from : Option Direction) (h : Direction) (f : Flows) (r : Queue X) → (BackTo f.columns f.tile.now u from → pos 0 <ℤ room f.tile.now f.columns h u → 0 < rank_of f.tile.now (beside f.columns h u)) → Goes spot came u from h f f r r
  goes_none u from h f r d = record { level = leveled_self f; rooms = refl; inside = λ a. a; search = λ k. visited_none f.columns u h from f.tile.now r k (d k.back_to) }

  pub goes_put : (u : ℕ) (from : Option Direction) (h : Direction) (f f' : Flows) (r r' : Queue X) (s : X) (v n : ℕ) (b : Result ⊤ X) → Fresh f.columns f.tile.now u h v → SameRows f f' → n ≡ rank_of f.tile.now u - 1 → f'.tile.now ≡ ranked_at f.tile.now v n → Enqueued r r' s b → spot s ≡ v → ((h' : Direction) → came s ≡ Some h' → h' ≡ opposite h) → Goes spot came u from h f f' r r'
  goes_put u from h f f' r r' s v n b w rows ne te p se sf =
      let te' : f'.tile.now ≡ ranked_at f.tile.now v (rank_of f.tile.now u - 1) = te ∙ ap (ranked_at f.tile.now v) ne in
      record {
        level = record { rows = rows; holds = subst (SameFlows f.tile.now) (sym te') (level_ranked f.tile.now v (rank_of f.tile.now u - 1)) };
        rooms = p.room;
        inside = inside_more (length f.tile.now) r r' s b p (subst (λ (x : ℕ). x < length f.tile.now) (sym se) w.inside);
        search = λ k. visited_put f.columns u h from f.tile.now f'.tile.now r r' s v b k w te' p se sf;
      }

  not_fresh : (c : ℕ) (t : Tile) (u : ℕ) (h : Direction) → u < length t → pos 0 <ℤ room t c h u → (Fresh c t u h (beside c h u) → ⊥) → 0 < rank_of t (beside c h u)
  not_fresh c t u h l o k =
      let inside = there_in (length t) c h u l (room_there t c h u o) in
      ⊎_elim
      (λ (z : rank_of t (beside c h u) ≡ 0). absurd (k (record { at = refl; inside = inside; open' = o; none = z })))
      (λ (z : rank_of t (beside c h u) ≡ 0 → ⊥). omega arith)
      (cases_eq (rank_of t (beside c h u)) 0)

  -- a search has gone over the first n directions out of u
  pub record Gone (c u : ℕ) (from : Option Direction) (n : ℕ) (t t' : Tile) (r r' : Queue X) : Type 0 where
    pub looks : Looks spot came c u from t' r'
    pub grows : Grows t t'
    pub done : (k : ℕ) → k < n → pos 0 <ℤ room t' c (get_or ways k Right) u → 0 < rank_of t' (beside c (get_or ways k Right) u)
    pub load_same : load t' (spots spot r') ≤ load t (spots spot r)
    pub olds : (x : ℕ) → Among x (spots spot r) → Among x (spots spot r')
    pub news : (x : ℕ) → 0 < rank_of t' x → (0 < rank_of t x) ⊎ Among x (spots spot r')

  gone_more : (c u : ℕ) (from : Option Direction) (n : ℕ) (t t1 t2 : Tile) (r r1 r2 : Queue X) → Gone c u from n t t1 r r1 → capacity r2 ≡ capacity r1 → Visited spot came c u (get_or ways n Right) t1 t2 r1 r2 → Gone c u from (n + 1) t t2 r r2
  gone_more c u from n t t1 t2 r r1 r2 g e v = record {
    looks = looks_on c u (get_or ways n Right) from t1 t2 r1 r2 g.looks e v;
    grows = grows_trans t t1 t2 g.grows v.grows;
    done = below_more _ _ (λ k l. spread_grows c t1 t2 u v.grows (get_or ways k Right) (g.done k l)) v.done;
    load_same = omega (arith, g.load_same, v.load_same);
    olds = λ x w. v.olds x (g.olds x w);
    news = trans_news t t1 t2 r1 r2 v.olds g.news v.news;
  }

  gone_all : (c u : ℕ) (from : Option Direction) (n : ℕ) (t t' : Tile) (r r' : Queue X) → 4 ≤ n → Gone c u from n t t' r r' → Visits spot came c u t t' r r'
  gone_all c u from n t t' r r' l g = record {
    grows = g.grows;
    keeps = search_done c t' (spots spot r') (length t') u g.looks.search (every_way (λ h. pos 0 <ℤ room t' c h u → 0 < rank_of t' (beside c h u)) n l g.done);
    load_same = g.load_same;
    backs = g.looks.backs;
    olds = g.olds;
    news = g.news;
  }

  -- the same over the records that flows borrow
  pub record Going (u : ℕ) (from : Option Direction) (n : ℕ) (f f' : Flows) (r r' : Queue X) : Type 0 where
    pub level : Leveled f f'
    pub rooms : capacity r' ≡ capacity r
    pub inside : AllInside spot f.tile.now r → AllInside spot f.tile.now r'
    pub search : Looks spot came f.columns u from f.tile.now r → Gone f.columns u from n f.tile.now f'.tile.now r r'

  gone_none : (c u : ℕ) (from : Option Direction) (t : Tile) (r : Queue X) → Looks spot came c u from t r → Gone c u from 0 t t r r
  gone_none c u from t r k = record { looks = k; grows = grows_self t; done = λ k l. absurd (omega arith); load_same = omega arith; olds = λ x a. a; news = λ x p. inl p }

  pub going_none : (u : ℕ) (from : Option Direction) (f : Flows) (r : Queue X) → Going u from 0 f f r r
  going_none u from f r = record { level = leveled_self f; rooms = refl; inside = λ a. a; search = λ k. gone_none f.columns u from f.tile.now r k }

  pub going_more : (u : ℕ) (from : Option Direction) (n : ℕ) (f f1 f2 : Flows) (r r1 r2 : Queue X) → Going u from n f f1 r r1 → Goes spot came u from (get_or ways n Right) f1 f2 r1 r2 → Going u from (n + 1) f f2 r r2
  going_more u from n f f1 f2 r r1 r2 g v = record {
    level = leveled_trans f f1 f2 g.level v.level;
    rooms = v.rooms ∙ g.rooms;
    inside = λ a. inside_on f.tile.now f1.tile.now r1 r2 g.level.holds v.inside (g.inside a);
    search = λ k.
        let a = g.search k in
        let w = rw g.level.rows.columns at v.search in
        gone_more f.columns u from n f.tile.now f1.tile.now f2.tile.now r r1 r2 a v.rooms (w a.looks);
  }

  -- a direction in which there was nowhere to go before the first was gone in
  going_past : (u : ℕ) (from : Option Direction) (n : ℕ) (f f1 : Flows) (r r1 : Queue X) → u < length f.tile.now → Going u from n f f1 r r1 → (Fresh f.columns f.tile.now u (get_or ways n Right) (beside f.columns (get_or ways n Right) u) → ⊥) → Going u from (n + 1) f f1 r r1
  going_past u from n f f1 r r1 l g k =
      let h = get_or ways n Right in
      record {
        level = g.level;
        rooms = g.rooms;
        inside = g.inside;
        search = λ s.
            let a = g.search s in
            record {
              looks = a.looks;
              grows = a.grows;
              done = below_more _ _ a.done (spread_grows f.columns f.tile.now f1.tile.now u a.grows h (λ o. not_fresh f.columns f.tile.now u h l o k));
              load_same = a.load_same;
              olds = a.olds;
              news = a.news;
            };
      }

  -- the same by a test that was made then
  pub going_not : (u : ℕ) (from : Option Direction) (n : ℕ) (f f1 : Flows) (r r1 : Queue X) (w : Bool) → u < length f.tile.now → Going u from n f f1 r r1 → IsTrue w ↔ Fresh f.columns f.tile.now u (get_or ways n Right) (beside f.columns (get_or ways n Right) u) → w ≡ false →
      Going u from (n + 1) f f1 r r1
  going_not u from n f f1 r r1 w l g k z = going_past u from n f f1 r r1 l g (λ a. false≢true (sym z ∙ k.1 a))

  -- a direction that is gone in if the test says so
  pub going_if : (u : ℕ) (from : Option Direction) (n : ℕ) (f f1 f2 : Flows) (r r1 r2 : Queue X) (w : Bool) → u < length f.tile.now → Going u from n f f1 r r1 → IsTrue w ↔ Fresh f.columns f.tile.now u (get_or ways n Right) (beside f.columns (get_or ways n Right) u) →
      GoesIf w spot came u from (get_or ways n Right) f1 f2 r1 r2 → Going u from (n + 1) f f2 r r2
  going_if u from n f f1 f2 r r1 r2 true l g k v = going_more u from n f f1 f2 r r1 r2 g v
  going_if u from n f f1 f2 r r1 r2 false l g k v = rw (v.0, v.1) (going_not u from n f f1 r r1 false l g k refl)

  pub going_all : (u : ℕ) (from : Option Direction) (n : ℕ) (f f' : Flows) (r r' : Queue X) → 4 ≤ n → Going u from n f f' r r' → GoesOn spot came u from f f' r r'
  going_all u from n f f' r r' l g = record { level = g.level; rooms = g.rooms; inside = g.inside; search = λ k. gone_all f.columns u from n f.tile.now f'.tile.now r r' l (g.search k) }

  -- a search between two entries
  pub record Turning (f f' : Flows) (r : Queue X) : Type 0 where
    pub level : Leveled f f'
    pub search : Searching f'.columns f'.tile.now (spots spot r) (length f'.tile.now)
    pub rooms : length f'.tile.now ≤ capacity r
    pub backs : All (Backed spot came f'.columns f'.tile.now) (waits r)

  pub turning_done : (f f1 : Flows) (r r1 : Queue X) → Turning f f1 r → Dequeued r r1 None → Ranked f1.columns f1.tile.now
  turning_done f f1 r r1 k d = subst (λ (x : List ℕ). Searching f1.columns f1.tile.now x (length f1.tile.now)) (ap (map spot) d.first) k.search

  -- the next entry is fetched
  pub turning_looks : (f f1 : Flows) (r r1 : Queue X) (s : X) → Turning f f1 r → Dequeued r r1 (Some s) → Looks spot came f1.columns (spot s) (came s) f1.tile.now r1
  turning_looks f f1 r r1 s k d = seek_looks f1.columns f1.tile.now r r1 s k.search k.rooms k.backs d.first d.room

  pub turning_on : (f f1 f2 : Flows) (r r1 r2 : Queue X) (s : X) → Turning f f1 r → Dequeued r r1 (Some s) → GoesOn spot came (spot s) (came s) f1 f2 r1 r2 → Turning f f2 r2
  turning_on f f1 f2 r r1 r2 s k d g =
      let looks = turning_looks f f1 r r1 s k d in
      let v = g.search looks in
      let long = g.level.holds.long in
      record { level = leveled_trans f f1 f2 k.level g.level; search = rw g.level.rows.columns v.keeps; rooms = omega (arith, long, g.rooms, looks.rooms); backs = rw g.level.rows.columns v.backs }

  pub turning_less : (f f1 f2 : Flows) (r r1 r2 : Queue X) (s : X) → Turning f f1 r → Dequeued r r1 (Some s) → GoesOn spot came (spot s) (came s) f1 f2 r1 r2 → load f2.tile.now (spots spot r2) < load f1.tile.now (spots spot r)
  turning_less f f1 f2 r r1 r2 s k d g = load_pop f1.columns f1.tile.now f2.tile.now r r1 r2 s d.first (g.search (turning_looks f f1 r r1 s k d))

  -- one more deficit cell
  begin_root : (c : ℕ) (t t' : Tile) (r r' : Queue X) (s : X) (i n : ℕ) (b : Bool) → Searching c t (spots spot r) i → length t ≤ capacity r → i < length t → n ≡ length t → rank_of t i ≡ 0 → InDeficit t c i → t' ≡ ranked_at t i n → EnqueuedIf r r' s true b → spot s ≡ i → Searching c t' (spots spot r') (i + 1) × (waits r' ≡ waits r ++ s ∷ [])
  begin_root c t t' r r' s i n b k f l ne z sh te p se =
      let na = not_all t i l z in
      let t1 : Tile = ranked_at t i n in
      let len = length-map (waits r) spot in
      let q = wanted_with_room r r' s b p (omega (arith, k.few)) in
      let qs : spots spot r' ≡ spots spot r ++ i ∷ [] = ap (map spot) q ∙ map_push spot (waits r) s ∙ ap (λ (x : ℕ). spots spot r ++ x ∷ []) se in
      let sh' : InDeficit t1 c i = subst (λ (x : ℤ). x <ℤ pos 0) (sym (remains_level t t1 (level_ranked t i n) c i)) sh in
      let a : Searching c t1 (spots spot r ++ i ∷ []) i = search_add c t (spots spot r) i i n k l z (omega arith) (omega arith) (omega arith) (inl sh') in
      let w = seen_more c t1 (spots spot r ++ i ∷ []) i a (λ _. omega (arith, rank_here t i n l)) in
      (subst (λ (x : Tile). Searching c x (spots spot r') (i + 1)) (sym te) (subst (λ (x : List ℕ). Searching c t1 x (i + 1)) (sym qs) w), q)

  none_some : (o : Option Direction) (h : Direction) → o ≡ None → o ≡ Some h → ⊥
  none_some o h a b = let z : ◌≡◌ {A = ℕ} 0 1 = cc in omega arith

  -- the cells below u have been looked at for a deficit
  pub record Beginning (u : ℕ) (f f' : Flows) (r r' : Queue X) : Type 0 where
    pub level : Leveled f f'
    pub search : Searching f'.columns f'.tile.now (spots spot r') u
    pub none : (b : ℕ) → u ≤ b → rank_of f'.tile.now b ≡ 0
    pub rooms : capacity r' ≡ capacity r
    pub back : All (λ s. came s ≡ None) (waits r')
    pub roots : (b : ℕ) → 0 < rank_of f'.tile.now b → InDeficit f'.tile.now f'.columns b

  beginning_not : (u : ℕ) (f f1 f2 : Flows) (r r1 r2 : Queue X) (s : X) (b : Bool) → Beginning u f f1 r r1 → (InDeficit f1.tile.now f1.columns u → ⊥) → SameRows f1 f2 → f2.tile.now ≡ ranked_at f1.tile.now u 0 → EnqueuedIf r1 r2 s false b → Beginning (u + 1) f f2 r r2
  beginning_not u f f1 f2 r r1 r2 s b k n rows te p =
      let e : f2.tile.now ≡ f1.tile.now = te ∙ ranked_same f1.tile.now u (k.none u (omega arith)) in
      let q : waits r2 ≡ waits r1 = unwanted_same r1 r2 s b p in
      record {
        level = leveled_trans f f1 f2 k.level (record { rows = rows; holds = subst (SameFlows f1.tile.now) (sym e) (level_self f1.tile.now) });
        search = rw (rows.columns, e, q) (begin_not f1.columns f1.tile.now (spots spot r1) u k.search n);
        none = λ x l. rw e (k.none x (omega arith));
        rooms = p.room ∙ k.rooms;
        back = subst (All (λ y. came y ≡ None)) (sym q) k.back;
        roots = λ x px. rw (rows.columns, e) (k.roots x (subst (λ (y : Tile). 0 < rank_of y x) e px));
      }

  beginning_root : (u n : ℕ) (f f1 f2 : Flows) (r r1 r2 : Queue X) (s : X) (b : Bool) → Beginning u f f1 r r1 → length f.tile.now ≤ capacity r → u < length f.tile.now → n ≡ length f.tile.now → InDeficit f1.tile.now f1.columns u → SameRows f1 f2 → f2.tile.now ≡ ranked_at f1.tile.now u n → EnqueuedIf r1 r2 s true b → spot s ≡ u → came s ≡ None → Beginning (u + 1) f f2 r r2
  beginning_root u n f f1 f2 r r1 r2 s b k room l ne sh rows te p se nb =
      let long = k.level.holds.long in
      let z = k.none u (omega arith) in
      let lv : SameFlows f1.tile.now f2.tile.now = subst (SameFlows f1.tile.now) (sym te) (level_ranked f1.tile.now u n) in
      let k' = begin_root f1.columns f1.tile.now f2.tile.now r1 r2 s u n b k.search (omega (arith, k.rooms)) (omega arith) (omega arith) z sh te p se in
      let same : (x : ℕ) → InDeficit f1.tile.now f1.columns x → InDeficit f2.tile.now f2.columns x = λ x d. rw rows.columns (subst (λ (y : ℤ). y <ℤ pos 0) (sym (remains_level f1.tile.now f2.tile.now lv f1.columns x)) d) in
      record {
        level = leveled_trans f f1 f2 k.level (record { rows = rows; holds = lv });
        search = rw rows.columns k'.0;
        none = λ x lx. subst (λ (y : Tile). rank_of y x ≡ 0) (sym te) (rank_other f1.tile.now u n x (λ e. omega arith) ∙ k.none x (omega arith));
        rooms = p.room ∙ k.rooms;
        back = subst (All (λ y. came y ≡ None)) (sym k'.1) (All-push (λ y. came y ≡ None) (waits r1) s k.back nb);
        roots = λ x px.
            ⊎_elim
            (λ (e : x ≡ u). same x (subst (λ (y : ℕ). InDeficit f1.tile.now f1.columns y) (sym e) sh))
            (λ (e : x ≡ u → ⊥). same x (k.roots x (subst (λ (y : ℕ). 0 < y) (ap (λ (y : Tile). rank_of y x) te ∙ rank_other f1.tile.now u n x e) px)))
            (cases_eq x u);
      }

  -- one more cell, in deficit or not
  pub beginning_next : (u n m : ℕ) (f f1 f2 : Flows) (r r1 r2 : Queue X) (s : X) (w b : Bool) → Beginning u f f1 r r1 → length f.tile.now ≤ capacity r → u < length f.tile.now → n ≡ length f.tile.now → w ≡ int_lt (remains f1.tile.now f1.columns u) (pos 0) → m ≡ cond w n 0 → SameRows f1 f2 → f2.tile.now ≡ ranked_at f1.tile.now u m → EnqueuedIf r1 r2 s w b → spot s ≡ u → came s ≡ None → Beginning (u + 1) f f2 r r2
  beginning_next u n m f f1 f2 r r1 r2 s true b k room l ne sh me rows te p se nb = beginning_root u n f f1 f2 r r1 r2 s b k room l ne (less_true _ _ (sym sh)) rows (te ∙ ap (ranked_at f1.tile.now u) me) p se nb
  beginning_next u n m f f1 f2 r r1 r2 s false b k room l ne sh me rows te p se nb = beginning_not u f f1 f2 r r1 r2 s b k (less_false _ _ (sym sh)) rows (te ∙ ap (ranked_at f1.tile.now u) me) p

  pub beginning_done : (u : ℕ) (f f' : Flows) (r r' : Queue X) → Beginning u f f' r r' → length f.tile.now ≤ capacity r → u ≡ length f.tile.now → Started spot came f'.columns f'.tile.now r'
  beginning_done u f f' r r' k room ue =
      let long = k.level.holds.long in
      let e : u ≡ length f'.tile.now = omega arith in
      record {
        search = subst (λ (x : ℕ). Searching f'.columns f'.tile.now (spots spot r') x) e k.search;
        rooms = omega (arith, k.rooms);
        backs = All-weaker (λ y. came y ≡ None) (Backed spot came f'.columns f'.tile.now) (λ y q h w. absurd (none_some (came y) h q w)) (waits r') k.back;
        roots = λ x p sp. let sh = k.roots x p in omega (arith, ints, sh, sp);
      }

  unmapped : (P : ℕ → Type 0) (xs : List X) → All P (map spot xs) → All (λ e. P (spot e)) xs
  unmapped P [] a = tt
  unmapped P (x ∷ xs) a = (a.0, unmapped P xs a.1)

  calm_after : (c : ℕ) (t t' : Tile) (r r1 r2 : Queue X) (s : X) → ((x : ℕ) → 0 < rank_of t x → Among x (spots spot r) ⊎ (InSurplus t c x → ⊥)) → waits r ≡ s ∷ waits r1 → (InSurplus t c (spot s) → ⊥) → Visits spot came c (spot s) t t' r1 r2 → (x : ℕ) → 0 < rank_of t' x → Among x (spots spot r2) ⊎ (InSurplus t' c x → ⊥)
  calm_after c t t' r r1 r2 s k q n v x p =
      let same : remains t' c x ≡ remains t c x = remains_level t t' v.grows.level c x in
      let move : (InSurplus t c x → ⊥) → InSurplus t' c x → ⊥ = λ f sp. f (subst (λ (z : ℤ). pos 0 <ℤ z) same sp) in
      ⊎_elim
      (λ (w : 0 < rank_of t x).
      ⊎_elim
      (λ (a : Among x (spots spot r)).
      let a' : (spot s ≡ x) ⊎ Among x (spots spot r1) = subst (λ (y : List ℕ). Among x y) (ap (map spot) q) a in
      ⊎_elim
      (λ (e : spot s ≡ x). inr (move (subst (λ (y : ℕ). InSurplus t c y → ⊥) e n)))
      (λ (y : Among x (spots spot r1)). inl (v.olds x y))
      a')
      (λ (f : InSurplus t c x → ⊥). inr (move f))
      (k x w))
      (λ (w : Among x (spots spot r2)). inl w)
      (v.news x p)

  -- a search for a surplus cell: those that do not wait any more are in no surplus
  pub record Seeking (f f' : Flows) (r : Queue X) : Type 0 where
    pub turning : Turning f f' r
    pub calm : (x : ℕ) → 0 < rank_of f'.tile.now x → Among x (spots spot r) ⊎ (InSurplus f'.tile.now f'.columns x → ⊥)

  -- the cell that is fetched, and those that still wait
  pub seeking_place : (f f1 : Flows) (r r1 : Queue X) (s : X) → Seeking f f1 r → Dequeued r r1 (Some s) → spot s < length f1.tile.now
  seeking_place f f1 r r1 s k d = (turning_looks f f1 r r1 s k.turning d).search.inside.0.0

  pub seeking_rest : (f f1 : Flows) (r r1 : Queue X) (s : X) → Seeking f f1 r → Dequeued r r1 (Some s) → AllInside spot f1.tile.now r1
  seeking_rest f f1 r r1 s k d =
      unmapped (λ x. x < length f1.tile.now) (waits r1) (All-weaker (λ x. (x < length f1.tile.now) × (0 < rank_of f1.tile.now x)) (λ x. x < length f1.tile.now) (λ x i. i.0) (spots spot r1) (turning_looks f f1 r r1 s k.turning d).search.inside.1)

  pub seeking_above : (f f1 : Flows) (r r1 : Queue X) (s : X) → Seeking f f1 r → Dequeued r r1 (Some s) → Above f1.columns f1.tile.now (rank_of f1.tile.now (spot s))
  seeking_above f f1 r r1 s k d =
      let p = (turning_looks f f1 r r1 s k.turning d).search.inside.0.1 in
      λ u l h. k.turning.search.tree u l (omega arith)

  pub seeking_on : (f f1 f2 : Flows) (r r1 r2 : Queue X) (s : X) → Seeking f f1 r → Dequeued r r1 (Some s) → (InSurplus f1.tile.now f1.columns (spot s) → ⊥) → GoesOn spot came (spot s) (came s) f1 f2 r1 r2 → Seeking f f2 r2
  seeking_on f f1 f2 r r1 r2 s k d n g =
      let v = g.search (turning_looks f f1 r r1 s k.turning d) in
      record {
        turning = turning_on f f1 f2 r r1 r2 s k.turning d g;
        calm = rw g.level.rows.columns (calm_after f1.columns f1.tile.now f2.tile.now r r1 r2 s k.calm d.first n v);
      }

  pub seeking_done : (f f1 : Flows) (r r1 : Queue X) → Seeking f f1 r → Dequeued r r1 None → Ranked f1.columns f1.tile.now × NoneInSurplus f1.columns f1.tile.now
  seeking_done f f1 r r1 k d =
      let none : spots spot r ≡ [] = ap (map spot) d.first in (
        turning_done f f1 r r1 k.turning d,
        λ u l p. ⊎_elim (λ (a : Among u (spots spot r)). absurd (subst (λ (x : List ℕ). Among u x) none a)) (λ (n : InSurplus f1.tile.now f1.columns u → ⊥). n) (k.calm u p),
      )
