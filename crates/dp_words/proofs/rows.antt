mod Lists
mod Refused
mod Within
