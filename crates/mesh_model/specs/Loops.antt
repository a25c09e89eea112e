-- Routes over time, as lines tell them, and their loops: which nodes pass what is for an originator
-- round among themselves, and what is reported of a moment. It stands on the rooms Scenario, Routes
-- and Text. The main words are `route_of_line`, in RouteLines, `loops_of`, in Routes, `report_text`,
-- in Reports, and `after_route`, in Bisecting.
pub mod RouteLines
pub mod Routes
pub mod Reports
pub mod Bisecting
