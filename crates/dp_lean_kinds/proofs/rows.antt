mod Histogram
