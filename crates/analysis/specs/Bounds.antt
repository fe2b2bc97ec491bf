-- How large a backup each record bears, found once for a table, and what it then is for a choice to meet a rule. An inner device of the walk and the list: the calls `bounds_of` and `meets_lent` promise it, and laws say that it is passing, and being assured.
pub mod Limits
pub mod Hopeless
pub mod Found
pub mod Within
pub mod Lent
